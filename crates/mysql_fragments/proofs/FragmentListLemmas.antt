-- The facts about the tokens of a fragment. They end where it ends. In a place that stands alone
-- its first bytes open nothing, and its tokens are portable. The places that it brings stand alone
-- too. This file proves them for a mark, a literal and numbers.
use Rattle.std.specs.Prelude.{Bool}
use Rattle.std.proofs.Common.{◌≡◌, ◌++◌, ◌||◌, not, ℕ, true, false, List, [], ◌∷◌, None, arith, refl, ap, ◌∙◌, sym, append_assoc, true≢false}
use Rattle.std.specs.Char.{is_ascii_digit}
use Rattle.std.specs.List.{list_all}
use Rattle.std.specs.Str.{byte}
use Rattle.std.proofs.lemmas.Bool.{and_parts, and_from, false_from_ne_true}
use Rattle.mysql_sql_text.specs.LiteralEnd.{continues_literal}
use Rattle.mysql_sql_text.specs.LiteralShape.{AreDigits, IsLiteral}
use Rattle.mysql_named_params.specs.Bytes.{colon, dash, point, question_mark}
use Rattle.mysql_named_params.specs.Tokens.{Token, AreTokensBefore, text_of, text_then, bytes_of, Name, Mark, Plain}
use Rattle.mysql_named_params.specs.Places.{names, marks, place_count}
use Rattle.mysql_named_params.proofs.TokenEnds.{plain_at}
use Rattle.mysql_named_params.proofs.TokenRowLemmas.{text_then-text_of, text_of-append, AreTokensBefore-append, place_count-append, place_count-sum}
use Rattle.mysql_portable.specs.Server.{begins_fraction}
use Rattle.mysql_binding.specs.StandsAlone.{may_stand_before, may_stand_after, none_or_first, none_or_last, first_not_alone_from}
use Rattle.mysql_binding.proofs.BoundStatementLemmas.{StayWithin, StayWithin-append, list_within as literal_within, plain_within, within}
use Rattle.mysql_binding.proofs.ByteTestLemmas.{behind_ends}
use Rattle.mysql_binding.proofs.LiteralTokenLemmas.{AreSettledBefore, AreSettledBefore-append, plain_tokens, other, plain_text, plain_places, plain_before, plain_settled, AreDigits-alphanumeric, minus_plain, minus_portable, minus_single, digits_open_nothing, minus_opens_nothing, IsLiteral-cut, IsLiteral-opens_nothing}
use Rattle.mysql_binding.proofs.UpToSpliceLemmas.{opens_nothing_after}
use Rattle.mysql_float_literal.specs.DoubleShape.{IsDouble}
use Rattle.mysql_portable.specs.SteadyBytes.{IsSteady}
use Rattle.mysql_steady_text.specs.SteadyShape.{IsSteadyLiteral}
use Rattle.mysql_steady_text.proofs.SteadyClientLemmas.{steady_literals_within}
use Rattle.mysql_steady_text.proofs.SteadySpliceLemmas.{HasCut, IsSteadyLiteral-cut, cut_in, literal_opens_nothing}
use Rattle.mysql_fragments.proofs.DoubleTokenLemmas.{IsDouble-plain, double_opens_nothing, double_within}
use Rattle.mysql_sql_text.proofs.DigitLemmas.{digits_all}
use Rattle.mysql_binding.proofs.RenamedPlaceLemmas.{if_alone}
use Rattle.mysql_named_params.proofs.FoundPlaceLemmas.{names-no_place}

-- ---- texts that may be before a place (mysql_binding's RenamedPlaceLemmas has these two too, but
-- doesn't export them)

-- the places of the list stand alone if it does, before tokens whose places do
abbrev pub StandAlone : List Token → Type 0
StandAlone list = (more : List Token) → none_or_first may_stand_after (text_of more) ≡ true →
    ((place : ℕ) (before : List ℕ) → first_not_alone_from place before more ≡ None) →
    (place : ℕ) (before : List ℕ) → none_or_last may_stand_before before ≡ true →
    first_not_alone_from place before (list ++ more) ≡ None

-- the facts about the tokens of a fragment with this number of marks
pub record IsFragmentList (mode : Bool) (n : ℕ) (text : List ℕ) (list : List Token) : Type 0 where
  pub list_text : text_of list ≡ text
  pub list_tokens : (rest : List ℕ) → AreTokensBefore mode rest list
  pub list_opens : (before : ℕ) (rest : List ℕ) → may_stand_before before ≡ true →
      opens_nothing_after before (text_then rest list) ≡ true
  pub list_settled : (rest : List ℕ) → none_or_first may_stand_after rest ≡ true → AreSettledBefore rest list
  pub list_alone : StandAlone list
  -- it holds no comment and no `;`
  pub list_within : StayWithin list
  pub list_names : names list ≡ []
  pub list_marks : marks list ≡ n

-- ---- without places

pub placeless_alone : (list : List Token) → place_count list ≡ 0 → StandAlone list
placeless_alone list none more first each place before last = go list none place before
  where
    go : (list : List Token) → place_count list ≡ 0 → (place : ℕ) (before : List ℕ) →
        first_not_alone_from place before (list ++ more) ≡ None
    go [] none place before = each place before
    go (Name name ∷ list) none place before = absurd (omega arith)
    go (Mark ∷ list) none place before = absurd (omega arith)
    go (t ∷ list) none place before = go list none place (before ++ bytes_of t)

pub no_marks : (list : List Token) → place_count list ≡ 0 → marks list ≡ 0
no_marks list none = omega (arith, none, place_count-sum list)

-- ---- a mark

pub mark_list : (mode : Bool) → IsFragmentList mode 1 (question_mark ∷ []) (Mark ∷ [])
mark_list mode = record {
  list_text = refl;
  list_tokens = λ rest. (tt, tt);
  list_opens = λ before rest b. refl;
  list_settled = λ rest h. (refl, refl, tt);
  list_alone = λ more first each place before last. if_alone _ _ _ (and_from _ _ last first) (each _ _);
  list_within = (refl, tt);
  list_names = refl;
  list_marks = refl;
}

-- ---- a literal

pub literal_list : (mode : Bool) (literal : List ℕ) → IsLiteral mode literal →
    (list : List Token) × IsFragmentList mode 0 literal list
literal_list mode literal h =
    let c = IsLiteral-cut mode h in (
      c.0,
      record {
        list_text = c.1.cut_text;
        list_tokens = c.1.cut_tokens;
        list_opens = λ before rest b. rw (text_then-text_of c.0 rest, c.1.cut_text) (IsLiteral-opens_nothing mode h before rest);
        list_settled = λ rest h. c.1.cut_settled rest;
        list_alone = placeless_alone c.0 c.1.cut_places;
        list_within = literal_within mode literal c.0 (within mode h) (record { text = c.1.cut_text; each = c.1.cut_tokens [] });
        list_names = names-no_place c.0 c.1.cut_places;
        list_marks = no_marks c.0 c.1.cut_places;
      },
    )

-- a steady literal
pub steady_list : (mode : Bool) (literal : List ℕ) → IsSteadyLiteral literal → IsSteady literal →
    (list : List Token) × IsFragmentList mode 0 literal list
unfolding HasCut
steady_list mode literal h s =
    let own = IsSteadyLiteral-cut h in
    let list : List Token = own.0 in
    let c = cut_in mode literal list s own.1 in (
      list,
      record {
        list_text = c.cut_text;
        list_tokens = c.cut_tokens;
        list_opens = λ before rest b. rw (text_then-text_of list rest, c.cut_text) (literal_opens_nothing h before rest b);
        list_settled = λ rest h. c.cut_settled rest;
        list_alone = placeless_alone list c.cut_places;
        list_within = (steady_literals_within mode (literal ∷ []) (list ∷ []) (h, s, tt) (record { text = c.cut_text; each = c.cut_tokens [] }, tt)).0;
        list_names = names-no_place list c.cut_places;
        list_marks = no_marks list c.cut_places;
      },
    )

-- ---- an exact number

abbrev dot : ℕ
dot = point

-- a text that may follow a place doesn't continue with a fraction
no_fraction : (rest : List ℕ) → none_or_first may_stand_after rest ≡ true → begins_fraction rest ≡ false
no_fraction [] h = refl
no_fraction (b ∷ rest) h =
    let ends = behind_ends b h in
    let no_digit : is_ascii_digit b ≡ false = false_from_ne_true _ (λ d. true≢false (sym (digit_continues b d) ∙ ends)) in
    rw (other may_stand_after b question_mark h refl, other may_stand_after b colon h refl, no_digit, other may_stand_after b (byte "e") h refl, other may_stand_after b (byte "E") h refl) refl
  where
    or_true : (a : Bool) → (a || true) ≡ true
    or_true true = refl
    or_true false = refl

    digit_continues : (b : ℕ) → is_ascii_digit b ≡ true → continues_literal b ≡ true
    digit_continues b d = rw d (or_true _)

fraction_ends : (digits : List ℕ) → list_all is_ascii_digit digits ≡ true → (rest : List ℕ) →
    none_or_first may_stand_after rest ≡ true → begins_fraction (text_then rest (plain_tokens digits)) ≡ false
fraction_ends [] all rest h = no_fraction rest h
fraction_ends (d ∷ digits) all rest h =
    let p = and_parts (is_ascii_digit d) (list_all is_ascii_digit digits) all in
    rw (other is_ascii_digit d question_mark p.0 refl, other is_ascii_digit d colon p.0 refl, fraction_ends digits p.1 rest h, other is_ascii_digit d (byte "e") p.0 refl, other is_ascii_digit d (byte "E") p.0 refl, p.0) refl

-- digits, a point and digits
abbrev pub decimal_tokens : List ℕ → List ℕ → List Token
decimal_tokens whole fraction = plain_tokens whole ++ (Plain dot ∷ plain_tokens fraction)

module _ (whole fraction : List ℕ) (w : AreDigits whole) (f : AreDigits fraction) where
  decimal_text : text_of (decimal_tokens whole fraction) ≡ whole ++ (dot ∷ fraction)
  decimal_text = text_of-append (plain_tokens whole) (Plain dot ∷ plain_tokens fraction) ∙ (ap (λ x. x ++ text_of (Plain dot ∷ plain_tokens fraction)) (plain_text whole) ∙ ap (λ x. whole ++ (dot ∷ x)) (plain_text fraction))

  decimal_before : (mode : Bool) (rest : List ℕ) → AreTokensBefore mode rest (decimal_tokens whole fraction)
  decimal_before mode rest =
      AreTokensBefore-append mode (plain_tokens whole) (Plain dot ∷ plain_tokens fraction) rest (plain_before mode whole (AreDigits-alphanumeric whole w) _)
      (plain_at mode dot _ refl, plain_before mode fraction (AreDigits-alphanumeric fraction f) rest)

  decimal_settled : (rest : List ℕ) → none_or_first may_stand_after rest ≡ true → AreSettledBefore rest (decimal_tokens whole fraction)
  decimal_settled rest h =
      AreSettledBefore-append (plain_tokens whole) (Plain dot ∷ plain_tokens fraction) rest (plain_settled whole (AreDigits-alphanumeric whole w) _)
      (ap not (fraction_ends fraction (digits_all fraction f) rest h), refl, plain_settled fraction (AreDigits-alphanumeric fraction f) rest)

  decimal_within : StayWithin (decimal_tokens whole fraction)
  decimal_within =
      StayWithin-append (plain_tokens whole) (Plain dot ∷ plain_tokens fraction) (plain_within whole (AreDigits-alphanumeric whole w))
      (refl, plain_within fraction (AreDigits-alphanumeric fraction f))

  decimal_places : place_count (decimal_tokens whole fraction) ≡ 0
  decimal_places = rw (place_count-append (plain_tokens whole) (Plain dot ∷ plain_tokens fraction), plain_places whole, plain_places fraction) refl

  decimal_opens : (before : ℕ) (rest : List ℕ) → opens_nothing_after before (text_then rest (decimal_tokens whole fraction)) ≡ true
  decimal_opens before rest = rw (text_then-text_of (decimal_tokens whole fraction) rest, decimal_text, append_assoc whole (dot ∷ fraction) rest) (digits_open_nothing whole w before _)

  pub decimal_list : (mode : Bool) → IsFragmentList mode 0 (whole ++ (dot ∷ fraction)) (decimal_tokens whole fraction)
  decimal_list mode = record {
    list_text = decimal_text;
    list_tokens = decimal_before mode;
    list_opens = λ before rest b. decimal_opens before rest;
    list_settled = decimal_settled;
    list_alone = placeless_alone (decimal_tokens whole fraction) decimal_places;
    list_within = decimal_within;
    list_names = names-no_place (decimal_tokens whole fraction) decimal_places;
    list_marks = no_marks (decimal_tokens whole fraction) decimal_places;
  }

negative_opens : (whole fraction : List ℕ) → AreDigits whole → AreDigits fraction → (before : ℕ) (rest : List ℕ) →
    opens_nothing_after before (dash ∷ text_then rest (decimal_tokens whole fraction)) ≡ true
negative_opens whole fraction w f before rest =
    let e : text_then rest (decimal_tokens whole fraction) ≡ whole ++ ((dot ∷ fraction) ++ rest) = text_then-text_of (decimal_tokens whole fraction) rest ∙ (ap (λ x. x ++ rest) (decimal_text whole fraction w f) ∙ append_assoc whole (dot ∷ fraction) rest) in
    ap (λ x. opens_nothing_after before (dash ∷ x)) e ∙ minus_opens_nothing whole w before _

pub negative_list : (mode : Bool) (whole fraction : List ℕ) → AreDigits whole → AreDigits fraction →
    IsFragmentList mode 0 (dash ∷ (whole ++ (dot ∷ fraction))) (Plain dash ∷ decimal_tokens whole fraction)
negative_list mode [] fraction w f = absurd w
negative_list mode (d ∷ digits) fraction w f =
    let whole : List ℕ = d ∷ digits in
    let c = decimal_list whole fraction w f mode in
    let places = decimal_places whole fraction w f in
    record {
      list_text = ap (λ x. dash ∷ x) (decimal_text whole fraction w f);
      list_tokens = λ rest. (minus_plain mode d _ w.0, c.list_tokens rest);
      list_opens = λ before rest b. negative_opens (d ∷ digits) fraction w f before rest;
      list_settled = λ rest h. (minus_portable d (text_then rest (plain_tokens digits ++ (Plain dot ∷ plain_tokens fraction))) w.0, minus_single d (text_then rest (plain_tokens digits ++ (Plain dot ∷ plain_tokens fraction))) w.0, c.list_settled rest h);
      list_alone = placeless_alone (Plain dash ∷ decimal_tokens whole fraction) places;
      list_within = (refl, c.list_within);
      list_names = names-no_place (Plain dash ∷ decimal_tokens whole fraction) places;
      list_marks = no_marks (Plain dash ∷ decimal_tokens whole fraction) places;
    }

-- ---- a double

pub double_list : (mode : Bool) (text : List ℕ) → IsDouble text → (list : List Token) × IsFragmentList mode 0 text list
double_list mode text h =
    let c = IsDouble-plain mode h in
    let list : List Token = plain_tokens text in (
      list,
      record {
        list_text = c.cut_text;
        list_tokens = c.cut_tokens;
        list_opens = λ before rest b. rw (text_then-text_of list rest, c.cut_text) (double_opens_nothing h before rest);
        list_settled = λ rest h. c.cut_settled rest;
        list_alone = placeless_alone list c.cut_places;
        list_within = double_within h;
        list_names = names-no_place list c.cut_places;
        list_marks = no_marks list c.cut_places;
      },
    )
