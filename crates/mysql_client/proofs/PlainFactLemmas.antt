-- What a client finds at a plain byte of a text in which nothing is found.
use Rattle.std.specs.Prelude.{Bool, not, codes}
use Rattle.std.proofs.Common.{◌≡◌, ℕ, true, false, cond, ◌==◌, ◌&&◌, ◌||◌, List, [], ◌∷◌, Option, Some, None, refl, sym, ap, ◌∙◌, inl, inr, arith, true≢false}
use Rattle.std.specs.Str.{byte}
use Rattle.std.proofs.lemmas.Bool.{cases_Bool, and_parts, or_parts, not-false, eqb-true}
use Rattle.std.proofs.lemmas.Bool.Decides.{nat_tests}
use Rattle.mysql_named_params.specs.Bytes.{asterisk, backquote, bracket, dash, dollar, hash, newline, slash, space, is_extension, is_string_quote, is_white_space, begins}
use Rattle.mysql_named_params.specs.Tokens.{Token, IsToken, Plain}
use Rattle.mysql_named_params.specs.TokensOf.{dash_comment}
use Rattle.mysql_named_params.proofs.PlainLemmas.{plain_none}
use Rattle.mysql_portable.specs.ServerTokens.{keeps_dashes, begins_tag, begins_own, is_tag_byte, begins_place}
use Rattle.mysql_portable.specs.Quiet.{begins_quiet}
use Rattle.mysql_portable.specs.Portable.{is_read_alike, differs_at, may_open_line}
use Rattle.mysql_portable.specs.FoundInClient.{letter_of, begins_word, is_client_word, is_word_of_mariadb, is_word_of_mysql, drops_line, closes_before_joined, stand_before_comment, found_word, found_at_byte}
use Rattle.mysql_portable.specs.declared.portable.Construct.{Construct}
use Rattle.mysql_client.specs.Outgoing.{is_space}
use Rattle.mysql_client.specs.ClientState.{Program, begins_in_ascii, is_mariadb, is_gap, is_own_word, hides_command, begins_slash_star, ends_dashes, ends_tag}
use Rattle.mysql_client.proofs.StepLemmas.{and_no, differs}
use Rattle.mysql_client.proofs.PlainStepLemmas.{IsPassed}

-- ---- choices

-- nothing is chosen
some_not : (c : Bool) (t : Token) (q : Option Token) → cond c (Some t) q ≡ None → (c ≡ false) × (q ≡ None)
some_not true t q e = cc
some_not false t q e = (refl, e)

either : (c : Bool) (x q : Option Token) → cond c x q ≡ None → (c ≡ true → x ≡ None) × (c ≡ false → q ≡ None)
either true x q e = (λ h. e, λ h. absurd (true≢false h))
either false x q e = (λ h. absurd (true≢false (sym h)), λ h. e)

pub found_not : (c : Bool) (k : Construct) (q : Option Construct) → cond c (Some k) q ≡ None → (c ≡ false) × (q ≡ None)
found_not true k q e = cc
found_not false k q e = (refl, e)

-- no word is found at a byte at which nothing is found
pub word_not : (st ln : Bool) (b : ℕ) (rest : List ℕ) → found_at_byte st ln b rest ≡ None → found_word st ln (letter_of b) rest ≡ None
word_not st ln b rest h =
    let c1 = found_not (b == byte "\\" && not (begins (λ c. c == byte "N") rest)) _ _ h in
    let c2 = found_not (b == asterisk && closes_before_joined rest) _ _ c1.1 in
    let c3 = found_not (b == dash && (st && drops_line rest)) _ _ c2.1 in
    (found_not (b == dash && stand_before_comment rest) _ _ c3.1).1

pub delimiter_not : (st : Bool) (b : ℕ) (rest : List ℕ) → found_word st true (letter_of b) rest ≡ None →
    begins_word (codes "delimiter") (b ∷ rest) ≡ false
delimiter_not st b rest h = (found_not (true && (letter_of b == byte "d" && begins_word (codes "elimiter") rest)) _ _ h).0

-- ---- the grammar

-- the bytes with which a token other than a plain byte begins
record IsPlainByte (mode : Bool) (b : ℕ) (rest : List ℕ) : Type 0 where
  quote : is_string_quote b ≡ false
  back : (b == backquote) ≡ false
  no_hash : (b == hash) ≡ false
  no_dashes : (b == dash) ≡ true → dash_comment rest ≡ None

plain_byte : (mode : Bool) (b : ℕ) (rest : List ℕ) → IsToken mode (Plain b) rest → IsPlainByte mode b rest
plain_byte mode b rest h =
    let e1 = some_not (is_string_quote b) _ _ (plain_none mode b rest h) in
    let e2 = some_not (b == backquote) _ _ e1.1 in
    let e3 = some_not (b == hash) _ _ e2.1 in
    let e4 = either (b == dash) _ _ e3.1 in
    record { quote = e1.0; back = e2.0; no_hash = e3.0; no_dashes = e4.0 }

-- after a plain `/` before `*`: the byte of a special comment's sign
pub plain_extension : (mode : Bool) (text : List ℕ) → IsToken mode (Plain slash) (asterisk ∷ text) → begins is_extension text ≡ true
plain_extension mode text h = not-false _ (some_not (not (begins is_extension text)) _ _ (plain_none mode slash (asterisk ∷ text) h)).0

-- ---- dashes

space_keeps_no : (g : ℕ) → keeps_dashes g ≡ true → is_space g ≡ false
space_keeps_no g h = grind (arith, nat_tests)

-- no comment of one line begins with the dashes
no_gap : (c : ℕ) (cs : List ℕ) → (c == dash) ≡ true → dash_comment (c ∷ cs) ≡ None → may_open_line (c ∷ cs) ≡ false → is_gap cs ≡ false
no_gap c [] d n m = refl
no_gap c (g ∷ gs) d n m =
    let opens : (c == dash && (is_white_space g && not (g == newline))) ≡ false = (some_not _ _ _ n).0 in
    let white : (is_white_space g && not (g == newline)) ≡ false = sym (ap (λ x. x && (is_white_space g && not (g == newline))) d) ∙ opens in
    let keeps : (g == space || (g == newline || keeps_dashes g)) ≡ true = of_not _ (sym (ap (λ x. x && not (g == space || (g == newline || keeps_dashes g))) d) ∙ m) in
    elim (cases_Bool (g == space)) [
      | inl s ↦
          let yes : (is_white_space g && not (g == newline)) ≡ true = ap (λ x. is_white_space x && not (x == newline)) (eqb-true g space s) in
          absurd (true≢false (sym yes ∙ white))
      | inr s ↦ elim (cases_Bool (g == newline)) [
        | inl l ↦ rw l (and_no (is_space g))
        | inr l ↦
            let k : keeps_dashes g ≡ true = sym (ap (λ x. x || (g == newline || keeps_dashes g)) s ∙ ap (λ x. x || keeps_dashes g) l) ∙ keeps in
            rw (space_keeps_no g k) refl
      ]
    ]
  where
    of_not : (x : Bool) → not x ≡ false → x ≡ true
    of_not true e = refl
    of_not false e = absurd (true≢false e)

-- ---- tags

pub tag_ends : (text : List ℕ) → begins_tag text ≡ false → ends_tag text ≡ false
tag_ends [] h = refl
tag_ends (b ∷ bs) h =
    let p = or_parts (b == dollar) _ h in
    let q = or_parts (begins_place (b ∷ bs)) (is_tag_byte b && begins_tag bs) p.1 in
    elim (cases_Bool (is_tag_byte b)) [
      | inl t ↦
          let e : begins_tag bs ≡ false = sym (ap (λ x. x && begins_tag bs) t) ∙ q.1 in
          rw (p.0, tag_ends bs e) (and_no (is_tag_byte b))
      | inr f ↦ rw (p.0, f) refl
    ]

-- ---- words

own_is_none : (p : Program) (ln st : Bool) (b : ℕ) (rest : List ℕ) → st ≡ true → ln ≡ true →
    found_word st ln (letter_of b) rest ≡ None → is_own_word p b rest ≡ false
unfolding is_client_word
own_is_none p ln st b rest s l h =
    let w = found_not _ _ _ h in
    let v = found_not _ _ _ w.1 in
    let d : (letter_of b == byte "d" && begins_word (codes "elimiter") rest) ≡ false =
    sym (ap (λ x. x && (letter_of b == byte "d" && begins_word (codes "elimiter") rest)) l) ∙ w.0 in
    let c : is_client_word (letter_of b) rest ≡ false = sym (ap (λ x. x && is_client_word (letter_of b) rest) s) ∙ v.0 in
    let word = (or_parts (is_word_of_mariadb (letter_of b) rest) (is_word_of_mysql (letter_of b) rest) c).0 in
    own (letter_of b == byte "d" && begins_word (codes "elimiter") rest) (is_word_of_mariadb (letter_of b) rest) d word
  where
    own : (x y : Bool) → x ≡ false → y ≡ false → ((x && (is_mariadb p || begins_in_ascii (b ∷ rest))) || (y && is_mariadb p)) ≡ false
    own x y e k = rw (e, k) refl

-- no command begins at a byte at which no word is found
pub no_command_at : (p : Program) (st ln f : Bool) (b : ℕ) (rest : List ℕ) → (f ≡ true → st ≡ true) → (st ≡ true → ln ≡ true) →
    begins_slash_star (b ∷ rest) ≡ false → found_word st ln (letter_of b) rest ≡ None →
    ((is_own_word p b rest || hides_command p b rest) && f) ≡ false
no_command_at p st ln f b rest fresh line slashes h =
    elim (cases_Bool f) [
      | inl t ↦ own_no (own_is_none p ln st b rest (fresh t) (line (fresh t)) h)
      | inr e ↦ rw e (and_no (is_own_word p b rest || hides_command p b rest))
    ]
  where
    own_no : is_own_word p b rest ≡ false → ((is_own_word p b rest || hides_command p b rest) && f) ≡ false
    own_no e = rw (e, slashes) refl

-- ---- all of it

may_open : (b : ℕ) (rest : List ℕ) → is_read_alike (Plain b) rest ≡ true → (b == slash) ≡ false → differs_at b rest ≡ false
may_open b rest h s = go (differs_at b rest) (sym (ap (λ x. not (differs_at b rest) || (x && begins_quiet rest)) s) ∙ h)
  where
    go : (x : Bool) → (not x || false) ≡ true → x ≡ false
    go true e = absurd (true≢false (sym e))
    go false e = refl

ends_none : (p : Program) (x : Bool) (rest : List ℕ) → dash_comment rest ≡ None → may_open_line rest ≡ false →
    (x ≡ true → drops_line rest ≡ false) → ends_dashes p x rest ≡ false
ends_none p x [] n m d = refl
ends_none p x (c ∷ cs) n m d =
    elim (cases_Bool (c == dash)) [
      | inr f ↦ rw f refl
      | inl t ↦
          elim (cases_Bool x) [
            | inr f ↦ rw (no_gap c cs t n m, f) (and_no (c == dash))
            | inl y ↦
                let none = (or_parts (begins_place (c ∷ cs)) (c == dash) (d y)).1 in
                absurd (true≢false (sym t ∙ none))
          ]
    ]

pub passed : (p : Program) (mode st ln f : Bool) (b : ℕ) (rest : List ℕ) → IsToken mode (Plain b) rest →
    is_read_alike (Plain b) rest ≡ true → found_at_byte st ln b rest ≡ None → begins_slash_star (b ∷ rest) ≡ false →
    (f ≡ true → st ≡ true) → (st ≡ true → ln ≡ true) → IsPassed p f b rest
passed p mode st ln f b rest h alike found slashes fresh line =
    let g = plain_byte mode b rest h in
    let c1 = found_not (b == byte "\\" && not (begins (λ c. c == byte "N") rest)) _ _ found in
    let c2 = found_not (b == asterisk && closes_before_joined rest) _ _ c1.1 in
    let c3 = found_not (b == dash && (st && drops_line rest)) _ _ c2.1 in
    let c4 = found_not (b == dash && stand_before_comment rest) _ _ c3.1 in
    let dashes : (x : Bool) → (x ≡ true → f ≡ true) → (b == dash && ends_dashes p x rest) ≡ false =
    λ x k. and_if (b == dash) (ends_dashes p x rest) (λ t.
    let no : (b == slash) ≡ false = differs b slash (λ y. y == dash) t refl in
    let d = may_open b rest alike no in
    let m = (or_parts (b == dash && may_open_line rest) (begins_own b rest) (or_parts (b == slash && begins (λ c. c == asterisk) rest) _ d).1).0 in
    ends_none p x rest (g.no_dashes t) (sym (ap (λ y. y && may_open_line rest) t) ∙ m)
    (λ e. sym (ap (λ y. y && drops_line rest) (fresh (k e))) ∙ (sym (ap (λ y. y && (st && drops_line rest)) t) ∙ c3.0))) in
    record {
      own = no_command_at p st ln f b rest fresh line slashes c4.1;
      no_slash = slashes;
      no_quote = rw (g.quote, g.back) refl;
      no_line = λ n. rw g.no_hash (dashes (n && f) (λ e. (and_parts n f e).1));
      no_follow = rw g.no_hash (dashes false (λ e. absurd (true≢false (sym e))));
      no_tag = and_if (b == dollar) (ends_tag rest && not (is_mariadb p)) (λ t.
          let no : (b == slash) ≡ false = differs b slash (λ y. y == dollar) t refl in
          let d = may_open b rest alike no in
          let o = (or_parts (b == dash && may_open_line rest) (begins_own b rest) (or_parts (b == slash && begins (λ c. c == asterisk) rest) _ d).1).1 in
          let tag = (or_parts (b == dollar && begins_tag rest) _ (or_parts (b == bracket) _ o).1).0 in
          rw (tag_ends rest (sym (ap (λ y. y && begins_tag rest) t) ∙ tag)) refl);
      null_there = λ t. of_not (begins (λ c. c == byte "N") rest) (sym (ap (λ y. y && not (begins (λ c. c == byte "N") rest)) t) ∙ c1.0);
    }
  where
    and_if : (x y : Bool) → (x ≡ true → y ≡ false) → (x && y) ≡ false
    and_if true y k = k refl
    and_if false y k = refl

    of_not : (x : Bool) → not x ≡ false → x ≡ true
    of_not true e = refl
    of_not false e = absurd (true≢false e)
