-- A text of a fixed length that is filled with a query and fragments as far as an index.
use Rattle.std.specs.List.{sum_by}
use Rattle.std.proofs.Common.{◌≡◌, ℕ, ◌+◌, ◌<◌, ◌≤◌, List, ◌++◌, length, length-append, map, take, drop, get_or, Some, refl, sym, ap, ◌∙◌, subst, arith, take_all}
use Rattle.std.proofs.lemmas.List.{length-map, length-take-le}
use Rattle.mysql_named_params.specs.Places.{place_count}
use Rattle.mysql_named_params.specs.FirstPlace.{IsFirstPlace}
use Rattle.mysql_named_params.specs.declared.places.FoundPlace.{FoundPlace}
use Rattle.mysql_named_params.specs.Reading.{OnTokensIn}
use Rattle.mysql_named_params.specs.declared.places.Reading.{Reading}
use Rattle.mysql_named_params.proofs.ReadingLemmas.{one_reading}
use Rattle.mysql_binding.specs.Pieces.{pieces, joined_text}
use Rattle.mysql_binding.specs.TextLength.{pieces_len}
use Rattle.mysql_binding.proofs.BoundText.{bound}
use Rattle.mysql_binding.proofs.MeasuredTextLemmas.{bound_len}
use Rattle.mysql_binding.proofs.PieceLemmas.{joined_text_is}
use Rattle.mysql_binding.proofs.TextLengthLemmas.{pieces_len-plain_len}
use Rattle.mysql_fragments.proofs.ExpandedLemmas.{SplicedSoFar, spliced_none, place_left, spliced_more, spliced_all}

-- the whole text has this length
abbrev HasLength : {X : Type 0} → Reading → (X → List ℕ) → List ℕ → List X → ℕ → Type 0
HasLength reading write query fragments n = OnTokensIn reading query (λ ts. n ≡ length (bound ts (map write fragments)))

-- the text is written up to the index, and has room for the rest
pub record FilledSoFar {X : Type 0} (reading : Reading) (write : X → List ℕ) (query rest : List ℕ) (fragments : List X) (i : ℕ) (text : List ℕ) (at : ℕ) : Type 0 where
  pub so_far : SplicedSoFar reading write query rest fragments i (take at text)
  pub in_range : at ≤ length text
  pub whole : OnTokensIn reading query (λ ts. length text ≡ length (bound ts (map write fragments)))

pub filled_none : {X : Type 0} (reading : Reading) (write : X → List ℕ) (query : List ℕ) (fragments : List X) (text : List ℕ) →
    OnTokensIn reading query (λ ts. length fragments ≡ place_count ts) →
    OnTokensIn reading query (λ ts. length text ≡ pieces_len ts + sum_by length (map write fragments)) →
    FilledSoFar reading write query query fragments 0 text 0
filled_none reading write query fragments text o room = record {
  so_far = spliced_none reading write query fragments (take 0 text) o refl;
  in_range = omega arith;
  whole =
      let same : room.0 ≡ o.0 = one_reading reading query room.0 o.0 room.1 o.1 in
      let all : length text ≡ pieces_len o.0 + sum_by length (map write fragments) = subst (λ ts. length text ≡ pieces_len ts + sum_by length (map write fragments)) same room.2 in (
        o.0,
        o.1,
        omega (arith, all, pieces_len-plain_len o.0, bound_len o.0 (map write fragments) (length-map fragments write ∙ o.2)),
      );
}

-- the text that is written so far is no longer than the whole
front_fits : {X : Type 0} (reading : Reading) (write : X → List ℕ) (query rest : List ℕ) (fragments : List X) (i : ℕ) (front : List ℕ) (n : ℕ) →
    SplicedSoFar reading write query rest fragments i front → HasLength reading write query fragments n → length front ≤ n
front_fits reading write query rest fragments i front n s whole =
    let same : whole.0 ≡ s.all = one_reading reading query whole.0 s.all whole.1 s.tokens in
    omega (
      arith,
      whole.2,
      ap (λ ts. length (bound ts (map write fragments))) same,
      ap length s.text_is,
      length-append front (bound s.left (drop i (map write fragments))),
    )

-- once the fragments are written, only the rest of the query is missing
whole_text : {X : Type 0} (reading : Reading) (write : X → List ℕ) (query : List ℕ) (fragments : List X) (text : List ℕ) (n : ℕ) →
    OnTokensIn reading query (λ ts. joined_text (pieces ts) (map write fragments) ≡ Some text) →
    HasLength reading write query fragments n → length text ≡ n
whole_text reading write query fragments text n j whole =
    let same : whole.0 ≡ j.0 = one_reading reading query whole.0 j.0 whole.1 j.1 in
    omega (
      arith,
      whole.2,
      ap (λ ts. length (bound ts (map write fragments))) same,
      ap length (joined_text_is j.0 (map write fragments) text j.2),
    )

module _ {X : Type 0} (reading : Reading) (write : X → List ℕ) (query rest : List ℕ) (fragments : List X) (i : ℕ) (text : List ℕ) (at : ℕ) (s : FilledSoFar reading write query rest fragments i text at) where
  filled : length (take at text) ≡ at
  filled = length-take-le at text s.in_range

  module _ (below : i < length fragments) where
    -- as long as fragments are left, a place is found
    pub fill_place_left : OnTokensIn reading rest (λ us. place_count us ≡ 0) → ⊥
    fill_place_left o = place_left reading write query rest fragments i (take at text) s.so_far below o

    module _ (fragment : X) (fragment_is : fragment ≡ get_or fragments i fragment) (found : FoundPlace) (o : OnTokensIn reading rest (λ us. IsFirstPlace us found)) (run : List ℕ) (run_is : run ≡ take found.before rest) where
      both_fit : at + (length run + length (write fragment)) ≤ length text
      both_fit =
          let more = spliced_more reading write query rest fragments i (take at text) s.so_far run (drop (found.before + found.len) rest) (take at text ++ run) ((take at text ++ run) ++ write fragment) fragment found
          below fragment_is o run_is refl refl refl in
          omega (
            arith,
            filled,
            front_fits reading write query (drop (found.before + found.len) rest) fragments (i + 1) ((take at text ++ run) ++ write fragment) (length text) more s.whole,
            length-append (take at text ++ run) (write fragment),
            length-append (take at text) run,
          )

      pub piece_fits : at + length run ≤ length text
      piece_fits = omega (arith, both_fit)

      module _ (text' : List ℕ) (at' : ℕ) (at'_is : at' ≡ at + length run) (same : length text' ≡ length text) (piece : take at' text' ≡ take at text ++ run) where
        pub fragment_fits : at' + length (write fragment) ≤ length text'
        fragment_fits = omega (arith, both_fit, at'_is, same)

        pub filled_more : (after text'' : List ℕ) (at'' : ℕ) → after ≡ drop (found.before + found.len) rest →
            at'' ≡ at' + length (write fragment) → length text'' ≡ length text' →
            take at'' text'' ≡ take at' text' ++ write fragment →
            FilledSoFar reading write query after fragments (i + 1) text'' at''
        filled_more after text'' at'' after_is at''_is same' written = record {
          so_far =
              spliced_more reading write query rest fragments i (take at text) s.so_far run after (take at' text') (take at'' text'') fragment found
              below fragment_is o run_is after_is piece written;
          in_range = omega (arith, fragment_fits, at''_is, same');
          whole = (s.whole.0, s.whole.1, same' ∙ (same ∙ s.whole.2));
        }

  module _ (done : length fragments ≤ i) where
    all_joined : OnTokensIn reading query (λ ts. joined_text (pieces ts) (map write fragments) ≡ Some (take at text ++ rest))
    all_joined = spliced_all reading write query rest fragments i (take at text) s.so_far done (take at text ++ rest) refl

    -- once all fragments are written, the rest has exactly its room
    pub last_fits : at + length rest ≡ length text
    last_fits =
        omega (arith, filled, length-append (take at text) rest, whole_text reading write query fragments (take at text ++ rest) (length text) all_joined s.whole)

    pub filled_all : (text' : List ℕ) (at' : ℕ) → at' ≡ at + length rest → length text' ≡ length text →
        take at' text' ≡ take at text ++ rest →
        OnTokensIn reading query (λ ts. joined_text (pieces ts) (map write fragments) ≡ Some text')
    filled_all text' at' at'_is same written =
        let all : take at' text' ≡ text' = take_all at' text' (omega (arith, last_fits, at'_is, same)) in
        subst (λ t. OnTokensIn reading query (λ ts. joined_text (pieces ts) (map write fragments) ≡ Some t)) (sym written ∙ all) all_joined
