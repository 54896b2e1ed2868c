-- The construct that is found at the front of a text is that of its first token.
use Rattle.std.specs.Prelude.{Bool}
use Rattle.std.proofs.Common.{◌≡◌, ◌≢◌, ◌⊎◌, ℕ, suc, ◌-◌, true, false, cond, not, ◌==◌, ◌&&◌, ◌||◌, List, [], ◌∷◌, ◌++◌, length, take, Option, Some, None, refl, sym, ap, ◌∙◌, subst, inl, inr, arith, true≢false, ne_eqb, take_at}
use Rattle.std.specs.Char.{is_ascii_digit}
use Rattle.std.proofs.lemmas.Bool.{cases_Bool, and_right, or_cases, or_from, eqb-true}
use Rattle.mysql_named_params.specs.Bytes.{asterisk, backquote, dash, double_quote, hash, newline, single_quote, slash, space, is_white_space, is_string_quote, is_extension, begins, IsUpTo, bracket, dollar, point}
use Rattle.mysql_named_params.specs.Tokens.{Token, bytes_of, IsToken, QuotedString, QuotedIdentifier, HashComment, DashComment, BlockComment, Name, Mark, Plain}
use Rattle.mysql_named_params.specs.TokensOf.{not_plain_at, block_comment}
use Rattle.mysql_named_params.proofs.PlainLemmas.{plain_none}
use Rattle.mysql_named_params.proofs.RestLemmas.{block_none}
use Rattle.mysql_portable.specs.Server.{keeps_dashes, begins_special, begins_tag, begins_fraction, holds_return, escapes_backquote}
use Rattle.mysql_portable.specs.Quiet.{is_quiet}
use Rattle.mysql_portable.specs.Portable.{stands_inside, may_open_line, begins_exponent, is_read_alike, joins_number}
use Rattle.mysql_portable.specs.FirstUnportable.{special_construct, construct_at}
use Rattle.mysql_portable.specs.FrontConstruct.{block_construct, front_construct}
use Rattle.mysql_portable.specs.declared.portable.Construct.{Construct}
use Rattle.mysql_portable.specs.declared.portable.Construct.TheVariants as construct
use Rattle.mysql_portable.proofs.PortableLemmas.{keeps_no_white, special_in_front, special_more}

-- the token, before this text, is portable and joins no number
abbrev pub passes : Token → List ℕ → Bool
passes t rest = is_read_alike t rest && not (joins_number t rest)

-- the construct with which the token begins, before this text; none if it passes
abbrev pub unportable_at : Token → List ℕ → Option Construct
unportable_at t rest = cond (passes t rest) None (Some (construct_at t rest))

-- ---- a text in quotes

pub quote_is : (q : ℕ) → is_string_quote q ≡ true → (q ≡ single_quote) ⊎ (q ≡ double_quote)
quote_is q h = elim (or_cases (q == single_quote) (q == double_quote) h) [
  | inl e ↦ inl (eqb-true q single_quote e)
  | inr e ↦ inr (eqb-true q double_quote e)
]

string_front : (q : ℕ) (tail rest : List ℕ) (len : ℕ) → is_string_quote q ≡ true →
    len ≡ suc (length tail) →
    front_construct (q ∷ (tail ++ rest)) len ≡ unportable_at (QuotedString q tail) rest
string_front q tail rest len h l = go (quote_is q h)
  where
    front : take (len - 1) (tail ++ rest) ≡ tail
    front = take_at tail rest (len - 1) (omega arith)

    double : (s : Bool) → ◌≡◌ {A = Option Construct} (cond s (Some construct.EscapedQuote) None)
        (cond (not s && true) None (Some construct.EscapedQuote))
    double true = refl
    double false = refl

    go : (q ≡ single_quote) ⊎ (q ≡ double_quote) →
        front_construct (q ∷ (tail ++ rest)) len ≡ unportable_at (QuotedString q tail) rest
    go (inl e) = subst (λ x. front_construct (x ∷ (tail ++ rest)) len ≡ unportable_at (QuotedString x tail) rest) (sym e) refl
    go (inr e) = subst (λ x. front_construct (x ∷ (tail ++ rest)) len ≡ unportable_at (QuotedString x tail) rest) (sym e)
        (ap (λ x. cond (stands_inside double_quote x) (Some construct.EscapedQuote) None) front ∙ double (stands_inside double_quote tail))

-- ---- an identifier, and a comment of one line

-- a test of the text after the first byte
one_test : (t : Bool) (c : Construct) → ◌≡◌ {A = Option Construct} (cond t (Some c) None) (cond (not t && true) None (Some c))
one_test true c = refl
one_test false c = refl

identifier_front : (tail rest : List ℕ) (len : ℕ) → len ≡ suc (length tail) →
    front_construct (backquote ∷ (tail ++ rest)) len ≡ unportable_at (QuotedIdentifier tail) rest
identifier_front tail rest len l =
    ap (λ x. cond (escapes_backquote x) (Some construct.EscapedBackquote) None) (take_at tail rest (len - 1) (omega arith))
    ∙ one_test (escapes_backquote tail) construct.EscapedBackquote

hash_front : (tail rest : List ℕ) (len : ℕ) → len ≡ suc (length tail) →
    front_construct (hash ∷ (tail ++ rest)) len ≡ unportable_at (HashComment tail) rest
hash_front tail rest len l =
    ap (λ x. cond (holds_return x) (Some construct.ReturnInComment) None) (take_at tail rest (len - 1) (omega arith))
    ∙ one_test (holds_return tail) construct.ReturnInComment

dash_front : (gap : ℕ) (tail rest : List ℕ) (len : ℕ) → is_white_space gap ≡ true → gap ≢ newline →
    len ≡ suc (length (dash ∷ gap ∷ tail)) →
    front_construct (dash ∷ dash ∷ gap ∷ (tail ++ rest)) len ≡ unportable_at (DashComment gap tail) rest
dash_front gap tail rest len w ne l =
    ap (λ x. cond (holds_return x) (Some construct.ReturnInComment) (cond (may_open_line (dash ∷ gap ∷ [])) (Some construct.Dashes) None)) (take_at (dash ∷ gap ∷ tail) rest (len - 1) (omega arith))
    ∙ by_gap (cases_Bool (gap == space))
  where
    Ends : ℕ → Type 0
    Ends x = ◌≡◌ {A = Option Construct} (cond (holds_return (x ∷ tail)) (Some construct.ReturnInComment) (cond (not (x == space || (x == newline || keeps_dashes x))) (Some construct.Dashes) None))
        (unportable_at (DashComment x tail) rest)

    ends : (r : Bool) → ◌≡◌ {A = Option Construct} (cond r (Some construct.ReturnInComment) None)
        (cond (not r && true) None (Some (cond r construct.ReturnInComment construct.Dashes)))
    ends true = refl
    ends false = refl

    other : (r m s h : Bool) → m ≡ true → s ≡ false →
        ◌≡◌ {A = Option Construct} (cond r (Some construct.ReturnInComment) (cond m (Some construct.Dashes) None))
        (cond ((s && not h) && true) None (Some (cond r construct.ReturnInComment construct.Dashes)))
    other true true false h e f = refl
    other false true false h e f = refl
    other r false s h e f = absurd (true≢false (sym e))
    other r true true h e f = absurd (true≢false f)

    opens : (gap == space) ≡ false → not (gap == space || (gap == newline || keeps_dashes gap)) ≡ true
    opens e = ap not (or_from _ _ e (or_from _ _ (ne_eqb gap newline ne) (keeps_no_white gap w)))

    by_gap : ((gap == space) ≡ true) ⊎ ((gap == space) ≡ false) → Ends gap
    by_gap (inl e) = subst Ends (sym (eqb-true gap space e)) (ends (holds_return tail))
    by_gap (inr e) = other (holds_return (gap ∷ tail)) _ (gap == space) (holds_return tail) (opens e) e

-- ---- a block comment

special_same : (tail rest : List ℕ) → begins_special tail ≡ true →
    special_construct (tail ++ rest) ≡ special_construct tail
special_same [] rest h = absurd (true≢false (sym h))
special_same (b ∷ tail) rest h = refl

pub block_front : (tail rest : List ℕ) → IsUpTo (asterisk ∷ slash ∷ []) tail rest →
    block_construct (asterisk ∷ (tail ++ rest)) ≡ unportable_at (BlockComment tail) rest
block_front tail rest u = go (cases_Bool (begins_special tail))
  where
    go : (begins_special tail ≡ true) ⊎ (begins_special tail ≡ false) →
        block_construct (asterisk ∷ (tail ++ rest)) ≡ unportable_at (BlockComment tail) rest
    go (inl p) = rw (special_more tail rest p, p) (ways (is_quiet (tail ++ rest)))
      where
        ways : (q : Bool) → ◌≡◌ {A = Option Construct} (cond (not q) (Some (special_construct (tail ++ rest))) None)
            (cond (q && true) None (Some (special_construct tail)))
        ways true = refl
        ways false = ap Some (special_same tail rest p)
    go (inr p) = rw (special_in_front tail rest u p, p) refl

-- ---- a plain byte

no_double_quote : (mode : Bool) (b : ℕ) (rest : List ℕ) → not_plain_at mode (b ∷ rest) ≡ None →
    (b == double_quote) ≡ false
no_double_quote mode b rest n = go (b == single_quote) (b == double_quote) _ _ n
  where
    go : (a c : Bool) (t : Token) (q : Option Token) → cond (a || c) (Some t) q ≡ None → c ≡ false
    go true c t q e = cc
    go false true t q e = cc
    go false false t q e = refl

pub slash_block : (mode : Bool) (b : ℕ) (rest : List ℕ) → b ≡ slash → not_plain_at mode (b ∷ rest) ≡ None →
    block_comment rest ≡ None
slash_block mode b rest e = subst (λ x. not_plain_at mode (x ∷ rest) ≡ None → block_comment rest ≡ None) (sym e) (λ n. n)

extension_special : (bs : List ℕ) → begins is_extension bs ≡ true → begins_special bs ≡ true
extension_special [] h = absurd (true≢false (sym h))
extension_special (b ∷ bs) h = rw h refl

slash_front : (rest : List ℕ) → block_comment rest ≡ None →
    block_construct rest ≡ unportable_at (Plain slash) rest
slash_front [] e = refl
slash_front (b ∷ bs) e = go (b == asterisk) (cases_Bool (begins is_extension bs)) (block_none (b ∷ bs) e)
  where
    ways : (q : Bool) → ◌≡◌ {A = Option Construct} (cond (not q) (Some (special_construct bs)) None)
        (cond (q && true) None (Some (special_construct bs)))
    ways true = refl
    ways false = refl

    go : (s : Bool) → (begins is_extension bs ≡ true) ⊎ (begins is_extension bs ≡ false) →
        (s && not (begins is_extension bs)) ≡ false →
        ◌≡◌ {A = Option Construct} (cond (s && (begins_special bs && not (is_quiet bs))) (Some (special_construct bs)) None)
        (cond ((not (s || false) || (s && (begins_special bs && is_quiet bs))) && true) None (Some (special_construct bs)))
    go false x h = refl
    go true (inl x) h = rw (extension_special bs x) (ways (is_quiet bs))
    go true (inr x) h = absurd (true≢false (rw x at h))

-- one test
one_way : (t : Bool) (c : Construct) → ◌≡◌ {A = Option Construct} (cond t (Some c) None)
    (cond ((not (t || false) || false) && true) None (Some c))
one_way true c = refl
one_way false c = refl

point_ways : (f x : Bool) (c d : Construct) →
    ◌≡◌ {A = Option Construct} (cond f (Some c) (cond x (Some d) None))
    (cond ((not f || false) && not x) None (Some (cond f c d)))
point_ways true x c d = refl
point_ways false true c d = refl
point_ways false false c d = refl

-- at a byte that is no double quote
abbrev pub byte_construct : ℕ → List ℕ → Option Construct
byte_construct b bs =
    cond (b == slash) (block_construct bs)
    (cond (b == dash && may_open_line bs) (Some construct.Dashes)
    (cond (b == bracket) (Some construct.Bracket)
    (cond (b == dollar && begins_tag bs) (Some construct.DollarQuote)
    (cond (b == point && begins_fraction bs) (Some construct.DashesAfterExponent)
    (cond ((is_ascii_digit b || b == point) && begins_exponent bs) (Some construct.PlaceAfterExponent) None)))))

byte_front : (b : ℕ) (rest : List ℕ) → (b ≡ slash → block_comment rest ≡ None) →
    byte_construct b rest ≡ unportable_at (Plain b) rest
byte_front b rest n = at_slash (cases_Bool (b == slash))
  where
    at_byte : (k : ℕ) → (b == k) ≡ true → byte_construct k rest ≡ unportable_at (Plain k) rest →
        byte_construct b rest ≡ unportable_at (Plain b) rest
    at_byte k e h = subst (λ x. byte_construct x rest ≡ unportable_at (Plain x) rest) (sym (eqb-true b k e)) h

    last : (j : Bool) → ◌≡◌ {A = Option Construct} (cond j (Some construct.PlaceAfterExponent) None)
        (cond (not j) None (Some construct.PlaceAfterExponent))
    last true = refl
    last false = refl

    at_point : (b == slash) ≡ false → (b == dash) ≡ false → (b == bracket) ≡ false → (b == dollar) ≡ false →
        ((b == point) ≡ true) ⊎ ((b == point) ≡ false) →
        byte_construct b rest ≡ unportable_at (Plain b) rest
    at_point f1 f2 f3 f4 (inl e) = at_byte point e (point_ways (begins_fraction rest) (begins_exponent rest) construct.DashesAfterExponent construct.PlaceAfterExponent)
    at_point f1 f2 f3 f4 (inr f5) = rw (f1, f2, f3, f4, f5) (last ((is_ascii_digit b || false) && begins_exponent rest))

    at_dollar : (b == slash) ≡ false → (b == dash) ≡ false → (b == bracket) ≡ false →
        ((b == dollar) ≡ true) ⊎ ((b == dollar) ≡ false) →
        byte_construct b rest ≡ unportable_at (Plain b) rest
    at_dollar f1 f2 f3 (inl e) = at_byte dollar e (one_way (begins_tag rest) construct.DollarQuote)
    at_dollar f1 f2 f3 (inr f4) = at_point f1 f2 f3 f4 (cases_Bool (b == point))

    at_bracket : (b == slash) ≡ false → (b == dash) ≡ false →
        ((b == bracket) ≡ true) ⊎ ((b == bracket) ≡ false) →
        byte_construct b rest ≡ unportable_at (Plain b) rest
    at_bracket f1 f2 (inl e) = at_byte bracket e refl
    at_bracket f1 f2 (inr f3) = at_dollar f1 f2 f3 (cases_Bool (b == dollar))

    at_dash : (b == slash) ≡ false → ((b == dash) ≡ true) ⊎ ((b == dash) ≡ false) →
        byte_construct b rest ≡ unportable_at (Plain b) rest
    at_dash f1 (inl e) = at_byte dash e (one_way (may_open_line rest) construct.Dashes)
    at_dash f1 (inr f2) = at_bracket f1 f2 (cases_Bool (b == bracket))

    at_slash : ((b == slash) ≡ true) ⊎ ((b == slash) ≡ false) →
        byte_construct b rest ≡ unportable_at (Plain b) rest
    at_slash (inl e) = at_byte slash e (slash_front rest (n (eqb-true b slash e)))
    at_slash (inr f1) = at_dash f1 (cases_Bool (b == dash))

pub plain_front : (mode : Bool) (b : ℕ) (rest : List ℕ) → not_plain_at mode (b ∷ rest) ≡ None →
    front_construct (b ∷ rest) 1 ≡ unportable_at (Plain b) rest
plain_front mode b rest n =
    let quote : front_construct (b ∷ rest) 1 ≡ byte_construct b rest =
    rw (no_double_quote mode b rest n, and_right (b == backquote) false refl, and_right (b == hash || b == dash) false refl) refl in
    quote ∙ byte_front b rest (λ e. slash_block mode b rest e n)

-- the construct that is found at the front of a text
pub front_is : (mode : Bool) (t : Token) (rest : List ℕ) → IsToken mode t rest →
    front_construct (bytes_of t ++ rest) (length (bytes_of t)) ≡ unportable_at t rest
front_is mode (QuotedString quote tail) rest h = string_front quote tail rest (length (quote ∷ tail)) h.0 (omega arith)
front_is mode (QuotedIdentifier tail) rest h = identifier_front tail rest (length (backquote ∷ tail)) (omega arith)
front_is mode (HashComment tail) rest h = hash_front tail rest (length (hash ∷ tail)) (omega arith)
front_is mode (DashComment gap tail) rest h = dash_front gap tail rest (length (dash ∷ dash ∷ gap ∷ tail)) h.0 h.1 (omega arith)
front_is mode (BlockComment tail) rest h = block_front tail rest h.1
front_is mode (Name name) rest h = refl
front_is mode Mark rest h = refl
front_is mode (Plain b) rest h = plain_front mode b rest (plain_none mode b rest h)
