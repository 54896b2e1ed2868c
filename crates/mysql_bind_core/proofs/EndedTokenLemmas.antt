-- The tokens of a query with the end of a statement: its own, also those of wide names in lower case.
use Rattle.std.specs.Prelude.{Bool}
use Rattle.std.proofs.Common.{◌≡◌, ◌∙◌, ◌+◌, ◌++◌, ◌==◌, ◌&&◌, ℕ, true, false, List, [], ◌∷◌, length, map, None, Some, arith, inl, inr, refl, sym, ap, subst, append-nil, append_assoc, if◌then◌else◌}
use Rattle.std.specs.Char.{to_ascii_lowercase}
use Rattle.std.proofs.lemmas.Bool.{and_from, and_parts, cases_Bool}
use Rattle.mysql_named_params.specs.Bytes.{colon, dash, hash, newline}
use Rattle.mysql_named_params.specs.LoweredNames.{lower_names}
use Rattle.mysql_named_params.specs.Places.{place_count}
use Rattle.mysql_named_params.specs.Reading.{IsTokensIn, wide_reading}
use Rattle.mysql_named_params.specs.Tokens.{Token, IsTokens, OnTokens, AreTokensBefore, bytes_of, text_of, HashComment, DashComment, Name, Mark, Plain}
use Rattle.mysql_named_params.specs.WideNames.{begins_wide, is_wide_byte, run, widened, widened_from}
use Rattle.mysql_named_params.proofs.LoweredLemmas.{lowered_tokens}
use Rattle.mysql_named_params.proofs.TokenEnds.{plain_at}
use Rattle.mysql_named_params.proofs.TokenListLemmas.{one_token_list}
use Rattle.mysql_named_params.proofs.TokenRowLemmas.{text_of-append, AreTokensBefore-append}
use Rattle.mysql_binding.specs.Pieces.{joined_text, pieces}
use Rattle.mysql_binding.specs.StandsAlone.{first_not_alone, first_not_alone_from, may_stand_after, may_stand_before, none_or_first, none_or_last, stands_alone}
use Rattle.mysql_binding.proofs.BoundText.{bound}
use Rattle.mysql_binding.proofs.ContentsLemmas.{alone_parts}
use Rattle.mysql_binding.proofs.PieceLemmas.{joined_text-pieces_from, joined_text_count, joined_text_is}
use Rattle.mysql_binding.proofs.RenamedPlaceLemmas.{if_alone}
use Rattle.mysql_bind_core.specs.QueryEnd.{end, long_end}
use Rattle.mysql_bind_core.specs.ScriptTokens.{has_newline, semicolon, then_newline, with_newline}
use Rattle.mysql_bind_core.proofs.BoundLineLemmas.{IsClosedLowered, closed_lowered}
use Rattle.mysql_bind_core.proofs.ClosedQueryLemmas.{closed_query}
use Rattle.mysql_bind_core.proofs.LineLemmas.{EndClosed, newline_before, newline_text}

-- ---- a newline and `;` after tokens

-- the tokens with a newline and `;`
abbrev pub with_end : List Token → List Token
with_end ts = with_newline ts ++ Plain semicolon ∷ []

pub end_text : (ts : List Token) → text_of (with_end ts) ≡ text_of ts ++ end
end_text ts =
    text_of-append (with_newline ts) (Plain semicolon ∷ []) ∙ ap (λ x. x ++ semicolon ∷ []) (newline_text ts)
    ∙ append_assoc (text_of ts) (newline ∷ []) (semicolon ∷ [])

-- they are the tokens of the text with its end, if it ends within none
pub ended_tokens : (mode : Bool) (text : List ℕ) (ts : List Token) → IsTokens mode text ts → EndClosed mode ts →
    IsTokens mode (text ++ end) (with_end ts)
ended_tokens mode text ts is closed = record {
  text = end_text ts ∙ ap (λ x. x ++ end) is.text;
  each = AreTokensBefore-append mode (with_newline ts) (Plain semicolon ∷ []) [] (newline_before mode ts (semicolon ∷ []) is.each closed) (plain_at mode semicolon [] refl, tt);
}

-- the second tokens are the first ones with a newline and `;`
pub data Ended : List Token → List Token → Type 0 where
  ended_here : Ended [] (Plain newline ∷ Plain semicolon ∷ [])
  ended_later : {t : Token} {ts us : List Token} → Ended ts us → Ended (t ∷ ts) (t ∷ us)
  ended_hash : (tail : List ℕ) → Ended (HashComment tail ∷ []) (HashComment (tail ++ newline ∷ []) ∷ Plain semicolon ∷ [])
  ended_dash : (gap : ℕ) (tail : List ℕ) →
      Ended (DashComment gap tail ∷ []) (DashComment gap (tail ++ newline ∷ []) ∷ Plain semicolon ∷ [])

last_ended : (t : Token) → Ended (t ∷ []) (then_newline t ++ Plain semicolon ∷ [])
last_ended (HashComment tail) =
    elim (cases_Bool (has_newline tail)) [
      | inl e ↦ rw e (ended_later ended_here)
      | inr e ↦ rw e (ended_hash tail)
    ]
last_ended (DashComment gap tail) =
    elim (cases_Bool (has_newline tail)) [
      | inl e ↦ rw e (ended_later ended_here)
      | inr e ↦ rw e (ended_dash gap tail)
    ]
last_ended t = ended_later ended_here

pub are_ended : (ts : List Token) → Ended ts (with_end ts)
are_ended [] = ended_here
are_ended (t ∷ []) = last_ended t
are_ended (t ∷ u ∷ ts) = ended_later (are_ended (u ∷ ts))

-- the end after a front
then_end : (front x y : List ℕ) → x ≡ y ++ end → front ++ x ≡ (front ++ y) ++ end
then_end front x y e = ap (λ z. front ++ z) e ∙ sym (append_assoc front y end)

comment_end : (tail : List ℕ) → (tail ++ newline ∷ []) ++ semicolon ∷ [] ≡ (tail ++ []) ++ end
comment_end tail = append_assoc tail (newline ∷ []) (semicolon ∷ []) ∙ ap (λ x. x ++ end) (sym (append-nil tail))

pub ended_text : {ts us : List Token} → Ended ts us → text_of us ≡ text_of ts ++ end
ended_text ended_here = refl
ended_text (ended_hash tail) = ap (λ x. hash ∷ x) (comment_end tail)
ended_text (ended_dash gap tail) = ap (λ x. dash ∷ dash ∷ gap ∷ x) (comment_end tail)
ended_text (ended_later {t = t} {ts = ts} {us = us} e) = then_end (bytes_of t) (text_of us) (text_of ts) (ended_text e)

-- ---- wide names in lower case

run_ended : {ts us : List Token} → Ended ts us → run us ≡ run ts
run_ended ended_here = refl
run_ended (ended_hash tail) = refl
run_ended (ended_dash gap tail) = refl
run_ended (ended_later {t = Plain b} e) = ap (λ x. if is_wide_byte b then b ∷ x else []) (run_ended e)
run_ended (ended_later {t = t} e) = refl

begins_ended : {ts us : List Token} → Ended ts us → begins_wide us ≡ begins_wide ts
begins_ended ended_here = refl
begins_ended (ended_hash tail) = refl
begins_ended (ended_dash gap tail) = refl
begins_ended (ended_later {t = Plain b} e) = refl
begins_ended (ended_later {t = t} e) = refl

-- the text with its names in lower case
abbrev low : Bool → List Token → List ℕ
low inside ts = text_of (lower_names (widened_from inside ts))

low_ended : (inside : Bool) {ts us : List Token} → Ended ts us → low inside us ≡ low inside ts ++ end
low_ended true ended_here = refl
low_ended false ended_here = refl
low_ended inside (ended_hash tail) = ap (λ x. hash ∷ x) (comment_end tail)
low_ended inside (ended_dash gap tail) = ap (λ x. dash ∷ dash ∷ gap ∷ x) (comment_end tail)
low_ended inside (ended_later {t = Plain b} {ts = ts} {us = us} e) =
    elim (cases_Bool (inside && is_wide_byte b)) [
      | inl h ↦ rw h (low_ended true e)
      | inr h ↦ elim (cases_Bool (b == colon && begins_wide ts)) [
        | inl g ↦ rw (h, begins_ended e, g, run_ended e) (then_end (colon ∷ map to_ascii_lowercase (run ts)) (low true us) (low true ts) (low_ended true e))
        | inr g ↦ rw (h, begins_ended e, g) (ap (λ x. b ∷ x) (low_ended false e))
      ]
    ]
low_ended inside (ended_later {t = Name name} {ts = ts} {us = us} e) =
    rw (run_ended e) (then_end (colon ∷ map to_ascii_lowercase (name ++ run ts)) (low true us) (low true ts) (low_ended true e))
low_ended inside (ended_later {t = t} {ts = ts} {us = us} e) = then_end (bytes_of t) (low false us) (low false ts) (low_ended false e)

-- the tokens of a query with its end, with its names in lower case
pub lowered_ended : (mode : Bool) (query : List ℕ) (ts us : List Token) → IsTokensIn (wide_reading mode) query ts →
    OnTokens mode (query ++ end) (λ vs. None ≡ long_end vs) → IsTokensIn (wide_reading mode) (query ++ end) us →
    lower_names us ≡ with_end (lower_names ts)
lowered_ended mode query ts us is closed is' =
    let own : IsTokens mode (query ++ end) (with_end is.0) = ended_tokens mode query is.0 is.1 (closed_query mode query is.0 is.1 closed) in
    let same : us ≡ widened (with_end is.0) = is'.2 ∙ ap widened (one_token_list mode (query ++ end) is'.0 (with_end is.0) is'.1 own) in
    let lowered = lowered_tokens mode (query ++ end) (with_end is.0) own in
    let low_query = closed_lowered mode query ts is closed in
    let text : text_of (lower_names (widened (with_end is.0))) ≡ text_of (lower_names ts) ++ end =
    low_ended false (are_ended is.0) ∙ ap (λ (x : List Token). text_of (lower_names x) ++ end) (sym is.2) in
    ap lower_names same
    ∙ one_token_list mode (text_of (lower_names ts) ++ end) (lower_names (widened (with_end is.0))) (with_end (lower_names ts))
    (subst (λ x. IsTokens mode x (lower_names (widened (with_end is.0)))) text lowered)
    (ended_tokens mode (text_of (lower_names ts)) (lower_names ts) low_query.is low_query.closed)

-- ---- texts in the places

count_ended : {ts us : List Token} → Ended ts us → place_count us ≡ place_count ts
count_ended ended_here = refl
count_ended (ended_hash tail) = refl
count_ended (ended_dash gap tail) = refl
count_ended (ended_later {t = Name name} e) = ap (λ n. n + 1) (count_ended e)
count_ended (ended_later {t = Mark} e) = ap (λ n. n + 1) (count_ended e)
count_ended (ended_later {t = t} e) = count_ended e

bound_ended : {ts us : List Token} → Ended ts us → (texts : List (List ℕ)) → length texts ≡ place_count ts →
    bound us texts ≡ bound ts texts ++ end
bound_ended ended_here texts l = refl
bound_ended (ended_hash tail) texts l = ap (λ x. hash ∷ x) (comment_end tail)
bound_ended (ended_dash gap tail) texts l = ap (λ x. dash ∷ dash ∷ gap ∷ x) (comment_end tail)
bound_ended (ended_later {t = Name name} e) [] l = absurd (omega arith)
bound_ended (ended_later {t = Name name} {ts = ts} {us = us} e) (text ∷ texts) l =
    then_end text (bound us texts) (bound ts texts) (bound_ended e texts (omega arith))
bound_ended (ended_later {t = Mark} e) [] l = absurd (omega arith)
bound_ended (ended_later {t = Mark} {ts = ts} {us = us} e) (text ∷ texts) l =
    then_end text (bound us texts) (bound ts texts) (bound_ended e texts (omega arith))
bound_ended (ended_later {t = t} {ts = ts} {us = us} e) texts l =
    then_end (bytes_of t) (bound us texts) (bound ts texts) (bound_ended e texts l)

pub joined_ended : (ts : List Token) (texts : List (List ℕ)) (text : List ℕ) → joined_text (pieces ts) texts ≡ Some text →
    joined_text (pieces (with_end ts)) texts ≡ Some (text ++ end)
joined_ended ts texts text e =
    let count = joined_text_count [] ts texts text e in
    joined_text-pieces_from [] (with_end ts) texts (count ∙ sym (count_ended (are_ended ts)))
    ∙ ap Some (bound_ended (are_ended ts) texts count ∙ ap (λ x. x ++ end) (sym (joined_text_is ts texts text e)))

first_ended : (x : List ℕ) → none_or_first may_stand_after x ≡ true → none_or_first may_stand_after (x ++ end) ≡ true
first_ended [] h = refl
first_ended (b ∷ x) h = h

stays_alone : (before : List ℕ) {ts us : List Token} → Ended ts us → stands_alone before (text_of ts) ≡ true →
    stands_alone before (text_of us) ≡ true
stays_alone before {ts = ts} e h =
    let p = and_parts (none_or_last may_stand_before before) (none_or_first may_stand_after (text_of ts)) h in
    rw (ended_text e) (and_from _ _ p.0 (first_ended (text_of ts) p.1))

alone_ended : (place : ℕ) (before : List ℕ) {ts us : List Token} → Ended ts us → first_not_alone_from place before ts ≡ None →
    first_not_alone_from place before us ≡ None
alone_ended place before ended_here n = refl
alone_ended place before (ended_hash tail) n = refl
alone_ended place before (ended_dash gap tail) n = refl
alone_ended place before (ended_later {t = Name name} {ts = ts} e) n =
    let p = alone_parts (stands_alone before (text_of ts)) _ _ n in
    if_alone _ _ _ (stays_alone before e p.0) (alone_ended (place + 1) (before ++ bytes_of (Name name)) e p.1)
alone_ended place before (ended_later {t = Mark} {ts = ts} e) n =
    let p = alone_parts (stands_alone before (text_of ts)) _ _ n in
    if_alone _ _ _ (stays_alone before e p.0) (alone_ended (place + 1) (before ++ bytes_of Mark) e p.1)
alone_ended place before (ended_later {t = t} e) n = alone_ended place (before ++ bytes_of t) e n

-- the places of a query with its end stand alone, if those of the query do
pub alone_with_end : (ts : List Token) → first_not_alone ts ≡ None → first_not_alone (with_end ts) ≡ None
alone_with_end ts n = alone_ended 0 [] (are_ended ts) n
