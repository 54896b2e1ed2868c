-- The tokens of a query in a reading.
use Rattle.std.specs.Prelude.{Bool}
use Rattle.std.proofs.Common.{◌≡◌, ℕ, ◌+◌, true, false, List, [], ◌∷◌, ◌++◌, refl, sym, ap, ◌∙◌, subst, arith}
use Rattle.mysql_named_params.specs.Tokens.{Token, AreTokensBefore, IsTokens, text_of, Name, Plain}
use Rattle.mysql_named_params.specs.Places.{place_count}
use Rattle.mysql_named_params.specs.Reading.{IsTokensWith, IsTokensIn}
use Rattle.mysql_named_params.specs.WideNames.{run, widened, widened_from}
use Rattle.mysql_named_params.specs.declared.places.Reading.{Reading}
use Rattle.mysql_named_params.proofs.TokenListLemmas.{one_token_list}
use Rattle.mysql_named_params.proofs.TokenRowLemmas.{AreTokensBefore-after, place_count-append}
use Rattle.mysql_named_params.proofs.TokensExistLemmas.{tokens_exist}
use Rattle.mysql_named_params.proofs.WideLemmas.{after_run, goes_on, opens, stays, plain_case, text_of-widened}
use Rattle.mysql_named_params.proofs.WidePlaceLemmas.{run_each, run_left}

-- the tokens, with wide names or as they are
abbrev pub read_with : Bool → List Token → List Token
read_with false ts = ts
read_with true ts = widened ts

pub tokens_read : (wide mode : Bool) (query : List ℕ) (own : List Token) → IsTokens mode query own →
    IsTokensWith wide mode query (read_with wide own)
tokens_read false mode query own is = is
tokens_read true mode query own is = (own, is, refl)

pub own_tokens : (wide mode : Bool) (query : List ℕ) (ts : List Token) →
    IsTokensWith wide mode query ts →
    (own : List Token) × IsTokens mode query own × (ts ≡ read_with wide own)
own_tokens false mode query ts is = (ts, is, refl)
own_tokens true mode query ts is = is

-- no query has two token lists in one reading
pub one_reading : (reading : Reading) (query : List ℕ) (ts us : List Token) →
    IsTokensIn reading query ts → IsTokensIn reading query us → ts ≡ us
one_reading reading query ts us t u =
    let a = own_tokens reading.wide_names reading.no_backslash_escape query ts t in
    let b = own_tokens reading.wide_names reading.no_backslash_escape query us u in
    let same : a.0 ≡ b.0 = one_token_list reading.no_backslash_escape query a.0 b.0 a.1 b.1 in
    a.2 ∙ (ap (read_with reading.wide_names) same ∙ sym b.2)

pub reading_exists : (reading : Reading) (query : List ℕ) →
    (ts : List Token) × IsTokensIn reading query ts
reading_exists reading query =
    let o = tokens_exist reading.no_backslash_escape query in
    (read_with reading.wide_names o.0, tokens_read reading.wide_names reading.no_backslash_escape query o.0 o.1)

text_of-read_with : (wide : Bool) (ts : List Token) → text_of (read_with wide ts) ≡ text_of ts
text_of-read_with false ts = refl
text_of-read_with true ts = text_of-widened ts

pub reading_text : (reading : Reading) (query : List ℕ) (ts : List Token) →
    IsTokensIn reading query ts → text_of ts ≡ query
reading_text reading query ts is =
    let a = own_tokens reading.wide_names reading.no_backslash_escape query ts is in
    ap text_of a.2 ∙ (text_of-read_with reading.wide_names a.0 ∙ a.1.text)

-- ---- the tokens after some

-- these tokens are read from others, each of which is a token before those after it
abbrev AreReadOf : (mode : Bool) → List Token → Type 0
AreReadOf mode ts = (own : List Token) × (ts ≡ widened own) × AreTokensBefore mode [] own

read_tokens : (mode : Bool) (ts : List Token) → AreReadOf mode ts →
    IsTokensWith true mode (text_of ts) ts
read_tokens mode ts r =
    (r.0, record { text = sym (ap text_of r.1 ∙ text_of-widened r.0); each = r.2 }, r.1)

no_name_first : (t : Token) (front : List Token) (name : List ℕ) → t ≡ Name name →
    place_count (t ∷ front) ≡ 0 → ⊥
no_name_first t front name e n =
    let more : place_count front + 1 ≡ 0 = subst (λ x. place_count (x ∷ front) ≡ 0) e n in
    omega (arith, more)

no_more_places : (t : Token) (front : List Token) → place_count (t ∷ front) ≡ 0 →
    place_count front ≡ 0
no_more_places t front n = omega (arith, place_count-append (t ∷ []) front, n)

-- after tokens that are no places
after_others : (mode : Bool) (front rest own : List Token) → place_count front ≡ 0 →
    front ++ rest ≡ widened own → AreTokensBefore mode [] own → AreReadOf mode rest
after_others mode [] rest own n e h = (own, e, h)
after_others mode (t ∷ front) rest [] n e h = cc
after_others mode (t ∷ front) rest (Plain b ∷ ts) n e h = elim (plain_case false b ts) [
  | goes_on i w f ↦ cc
  | opens c w f ↦
      let both : t ∷ (front ++ rest) ≡ Name (run ts) ∷ widened_from true ts = e ∙ f in
      let first : t ≡ Name (run ts) = cc in
      absurd (no_name_first t front (run ts) first n)
  | stays i c f ↦
      let both : t ∷ (front ++ rest) ≡ Plain b ∷ widened ts = e ∙ f in
      let more : front ++ rest ≡ widened ts = cc in
      after_others mode front rest ts (no_more_places t front n) more h.1
]
after_others mode (t ∷ front) rest (Name name ∷ ts) n e h =
    let first : t ≡ Name (name ++ run ts) = cc in
    absurd (no_name_first t front (name ++ run ts) first n)
after_others mode (t ∷ front) rest (u ∷ ts) n e h =
    let more : front ++ rest ≡ widened ts = cc in
    after_others mode front rest ts (no_more_places t front n) more h.1

-- after one token
after_first : (mode : Bool) (t : Token) (rest own : List Token) → t ∷ rest ≡ widened own →
    AreTokensBefore mode [] own → AreReadOf mode rest
after_first mode t rest [] e h = cc
after_first mode t rest (Plain b ∷ ts) e h = elim (plain_case false b ts) [
  | goes_on i w f ↦ cc
  | opens c w f ↦
      let both : t ∷ rest ≡ Name (run ts) ∷ widened_from true ts = e ∙ f in
      let more : rest ≡ widened_from true ts = cc in
      (after_run ts, more ∙ run_left ts, run_each mode ts h.1)
  | stays i c f ↦
      let both : t ∷ rest ≡ Plain b ∷ widened ts = e ∙ f in
      let more : rest ≡ widened ts = cc in
      (ts, more, h.1)
]
after_first mode t rest (Name name ∷ ts) e h =
    let more : rest ≡ widened_from true ts = cc in
    (after_run ts, more ∙ run_left ts, run_each mode ts h.1)
after_first mode t rest (u ∷ ts) e h =
    let more : rest ≡ widened ts = cc in
    (ts, more, h.1)

pub tokens_after_others : (wide mode : Bool) (query : List ℕ) (front rest : List Token) →
    place_count front ≡ 0 → IsTokensWith wide mode query (front ++ rest) →
    IsTokensWith wide mode (text_of rest) rest
tokens_after_others false mode query front rest n is =
    record { text = refl; each = AreTokensBefore-after mode front rest [] is.each }
tokens_after_others true mode query front rest n is =
    read_tokens mode rest (after_others mode front rest is.0 n is.2 is.1.each)

pub tokens_after_first : (wide mode : Bool) (query : List ℕ) (t : Token) (rest : List Token) →
    IsTokensWith wide mode query (t ∷ rest) → IsTokensWith wide mode (text_of rest) rest
tokens_after_first false mode query t rest is = record { text = refl; each = is.each.1 }
tokens_after_first true mode query t rest is =
    read_tokens mode rest (after_first mode t rest is.0 is.2 is.1.each)
