-- The tokens of a text with fewer rows are those of the text with more, without some tokens that are
-- behind a closing bracket and end with one.
use Rattle.std.specs.Prelude.{Bool, codes, ⊤}
use Rattle.std.specs.Global.{Vec}
use Rattle.std.specs.List.{flat_map}
use Rattle.std.specs.Str.{byte}
use Rattle.std.proofs.Common.{◌≡◌, ◌∙◌, ◌+◌, ◌++◌, ℕ, List, [], ◌∷◌, length, map, nat_eq, None, option_map, refl, sym, ap, subst, arith, append-nil, append_assoc, length-append}
use Rattle.std.proofs.lemmas.Grind.{flat_map-append}
use Rattle.std.proofs.lemmas.List.{length-map, map-append}
use Rattle.mysql_values.specs.declared.value.Value.{Value}
use Rattle.mysql_named_params.specs.Places.{place_count}
use Rattle.mysql_named_params.specs.Tokens.{AreTokensBefore, Mark, Name, Plain, Token, text_of}
use Rattle.mysql_named_params.specs.TokensOf.{tokens_of}
use Rattle.mysql_named_params.proofs.TokenEnds.{plain_at}
use Rattle.mysql_named_params.proofs.TokenListLemmas.{one_token_list}
use Rattle.mysql_named_params.proofs.TokenRowLemmas.{AreTokensBefore-append, place_count-append, place_count-sum, text_of-append}
use Rattle.mysql_named_params.proofs.TokensExistLemmas.{tokens_right}
use Rattle.mysql_binding.specs.Replaced.{AreTokensOf, with_literal_tokens}
use Rattle.mysql_binding.proofs.CauseLemmas.{map_none, or_none}
use Rattle.mysql_fragments.specs.FragmentErrors.{first_fault_from}
use Rattle.mysql_fragments.specs.FragmentFaults.{fault_of, item_fault, items_fault, row_fault, rows_fault_from}
use Rattle.mysql_fragments.specs.FragmentShape.{IsFragment}
use Rattle.mysql_fragments.specs.FragmentText.{all_values, fragment_text, fragment_values, item_text, item_values, items_text, joined, row_text}
use Rattle.mysql_fragments.specs.declared.fragment.Item.{Item}
use Rattle.mysql_fragments.specs.declared.fragment.Fragment.{Fragment}
use Rattle.mysql_fragments.proofs.FragmentLemmas.{comma_then, fragment_list_of}
use Rattle.mysql_fragments.proofs.ShapeLemmas.{fragment_shape, if_row, item_shape}
use Rattle.mysql_bind_core.proofs.FewerRowLemmas.{joined-append, rows_faults}
use Rattle.mysql_bind_core.proofs.FewerSentLemmas.{AreLeft, left_out, left_same}

-- ---- the tokens of texts

pub tk : Bool → List ℕ → List Token
tk mode text = tokens_of mode text

pub all_tokens : {X : Type 0} (mode : Bool) (text : X → List ℕ) (xs : List X) (lists : List (List Token)) → AreTokensOf mode (map text xs) lists →
    lists ≡ map (λ x. tk mode (text x)) xs
unfolding tk
all_tokens mode text [] [] a = refl
all_tokens mode text [] (list ∷ lists) a = absurd a
all_tokens mode text (x ∷ xs) [] a = absurd a
all_tokens mode text (x ∷ xs) (list ∷ lists) a =
    let first = one_token_list mode (text x) list (tokens_of mode (text x)) a.0 (tokens_right mode (text x)) in
    let more = all_tokens mode text xs lists a.1 in
    λ i. first i ∷ more i

-- the tokens of a text, whatever follows it, with this number of places
record IsListOf (mode : Bool) (n : ℕ) (text : List ℕ) (list : List Token) : Type 0 where
  own_text : text_of list ≡ text
  own_tokens : (rest : List ℕ) → AreTokensBefore mode rest list
  own_places : n ≡ place_count list

list_is : (mode : Bool) (n : ℕ) (text : List ℕ) (list : List Token) → IsListOf mode n text list → list ≡ tk mode text
unfolding tk
list_is mode n text list f = one_token_list mode text list (tokens_of mode text) (record { text = f.own_text; each = f.own_tokens [] }) (tokens_right mode text)

list_of_shape : (mode : Bool) (n : ℕ) (text : List ℕ) → IsFragment mode n text → (list : List Token) × IsListOf mode n text list
list_of_shape mode n text h =
    let f = fragment_list_of mode h in (
      f.0,
      record {
        own_text = f.1.list_text;
        own_tokens = f.1.list_tokens;
        own_places = omega (arith, place_count-sum f.0, ap length f.1.list_names, f.1.list_marks);
      },
    )

comma_lists : (mode : Bool) (n k : ℕ) (a b : List ℕ) (us vs : List Token) → IsListOf mode n a us → IsListOf mode k b vs →
    IsListOf mode (n + k) (a ++ (codes ", " ++ b)) (us ++ comma_then vs)
comma_lists mode n k a b us vs x y = record {
  own_text = text_of-append us (comma_then vs) ∙ (ap (λ z. z ++ text_of (comma_then vs)) x.own_text ∙ ap (λ z. a ++ (byte "," ∷ byte " " ∷ z)) y.own_text);
  own_tokens = λ rest. AreTokensBefore-append mode us (comma_then vs) rest (x.own_tokens _) (plain_at mode (byte ",") _ refl, (plain_at mode (byte " ") _ refl, y.own_tokens rest));
  own_places = omega (arith, x.own_places, y.own_places, place_count-append us (comma_then vs));
}

bracket_lists : (mode : Bool) (n : ℕ) (a : List ℕ) (us : List Token) → IsListOf mode n a us →
    IsListOf mode n (codes "(" ++ (a ++ codes ")")) (Plain (byte "(") ∷ (us ++ Plain (byte ")") ∷ []))
bracket_lists mode n a us x = record {
  own_text = ap (λ u. byte "(" ∷ u) (text_of-append us (Plain (byte ")") ∷ []) ∙ ap (λ u. u ++ byte ")" ∷ []) x.own_text);
  own_tokens = λ rest. (plain_at mode (byte "(") _ refl, AreTokensBefore-append mode us (Plain (byte ")") ∷ []) rest (x.own_tokens _) (plain_at mode (byte ")") _ refl, tt));
  own_places = omega (arith, x.own_places, place_count-append us (Plain (byte ")") ∷ []));
}

pub with_literal_tokens-append : (us vs : List Token) (xs ys : List (List Token)) → length xs ≡ place_count us →
    with_literal_tokens (us ++ vs) (xs ++ ys) ≡ with_literal_tokens us xs ++ with_literal_tokens vs ys
with_literal_tokens-append [] vs [] ys e = refl
with_literal_tokens-append [] vs (x ∷ xs) ys e = absurd (omega (arith, e))
with_literal_tokens-append (Name q ∷ us) vs [] ys e = absurd (omega (arith, e))
with_literal_tokens-append (Name q ∷ us) vs (x ∷ xs) ys e =
    ap (λ z. x ++ z) (with_literal_tokens-append us vs xs ys (omega (arith, e))) ∙ sym (append_assoc x (with_literal_tokens us xs) (with_literal_tokens vs ys))
with_literal_tokens-append (Mark ∷ us) vs [] ys e = absurd (omega (arith, e))
with_literal_tokens-append (Mark ∷ us) vs (x ∷ xs) ys e =
    ap (λ z. x ++ z) (with_literal_tokens-append us vs xs ys (omega (arith, e))) ∙ sym (append_assoc x (with_literal_tokens us xs) (with_literal_tokens vs ys))
with_literal_tokens-append (t ∷ us) vs xs ys e = ap (λ z. t ∷ z) (with_literal_tokens-append us vs xs ys e)

-- ---- the tokens of one place, with fewer rows

pub data PlaceLeft : List Token → List Token → Type 0 where
  place_same : (us : List Token) → PlaceLeft us us
  place_out : (us ms : List Token) → PlaceLeft (us ++ Plain (byte ")") ∷ []) ((us ++ Plain (byte ")") ∷ []) ++ (ms ++ Plain (byte ")") ∷ []))

pub place_by : (a b c d : List Token) → a ≡ c → b ≡ d → PlaceLeft c d → PlaceLeft a b
place_by a b c d e f h = subst (λ z. PlaceLeft z b) (sym e) (subst (PlaceLeft c) (sym f) h)

pub left_place : (a b us vs : List Token) → PlaceLeft a b → AreLeft us vs → AreLeft (a ++ us) (b ++ vs)
left_place a b us vs (place_same ks) h = go ks
  where
    go : (ks : List Token) → AreLeft (ks ++ us) (ks ++ vs)
    go [] = h
    go (k ∷ ks) = left_same (go ks)
left_place a b us vs (place_out ks ms) h = go ks
  where
    go : (ks : List Token) → AreLeft ((ks ++ Plain (byte ")") ∷ []) ++ us) (((ks ++ Plain (byte ")") ∷ []) ++ (ms ++ Plain (byte ")") ∷ [])) ++ vs)
    go [] = subst (λ z. AreLeft (Plain (byte ")") ∷ us) (Plain (byte ")") ∷ z)) (sym (append_assoc ms (Plain (byte ")") ∷ []) vs)) (left_out ms h)
    go (k ∷ ks) = left_same (go ks)

-- ---- the tokens of rows

abbrev pub row_values : List (Vec Item) → List Value
row_values qs = flat_map (λ q. flat_map item_values q.items) qs

module _ (mode : Bool) where
  items_list : (r i : ℕ) (x : Item) (xs : List Item) → items_fault r i (x ∷ xs) ≡ None →
      (list : List Token) × IsListOf mode (length (flat_map item_values (x ∷ xs))) (items_text (x ∷ xs)) list
  items_list r i x [] e =
      let p = or_none (item_fault r i x) _ e in
      let l = list_of_shape mode (length (item_values x)) (item_text x) (item_shape mode r i x p.0) in (
        l.0,
        subst (λ n. IsListOf mode n (item_text x ++ []) l.0) (ap length (sym (append-nil (item_values x))))
            (subst (λ z. IsListOf mode (length (item_values x)) z l.0) (sym (append-nil (item_text x))) l.1),
      )
  items_list r i x (y ∷ ys) e =
      let p = or_none (item_fault r i x) _ e in
      let l = list_of_shape mode (length (item_values x)) (item_text x) (item_shape mode r i x p.0) in
      let m = items_list r (i + 1) y ys p.1 in (
        l.0 ++ comma_then m.0,
        subst (λ n. IsListOf mode n (items_text (x ∷ y ∷ ys)) (l.0 ++ comma_then m.0)) (sym (length-append (item_values x) (flat_map item_values (y ∷ ys))))
            (comma_lists mode (length (item_values x)) (length (flat_map item_values (y ∷ ys))) (item_text x) (items_text (y ∷ ys)) l.0 m.0 l.1 m.1),
      )

  row_tokens : (width r : ℕ) (xs : List Item) → row_fault width r xs ≡ None →
      (list : List Token) × IsListOf mode (length (flat_map item_values xs)) (codes "(" ++ (items_text xs ++ codes ")")) (list ++ Plain (byte ")") ∷ [])
  row_tokens width r [] e = cc
  row_tokens width r (x ∷ xs) e =
      let l = items_list r 0 x xs (if_row (nat_eq (length (x ∷ xs)) width) _ _ e) in
      (Plain (byte "(") ∷ l.0, bracket_lists mode (length (flat_map item_values (x ∷ xs))) (items_text (x ∷ xs)) l.0 l.1)

  rows_tokens : (width r : ℕ) (q : Vec Item) (qs : List (Vec Item)) → rows_fault_from width r (q ∷ qs) ≡ None →
      (list : List Token) × IsListOf mode (length (row_values (q ∷ qs))) (joined (codes ", ") (map row_text (q ∷ qs))) (list ++ Plain (byte ")") ∷ [])
  rows_tokens width r q [] e =
      let p = or_none (row_fault width r q.items) _ e in
      let l = row_tokens width r q.items p.0 in (
        l.0,
        subst (λ n. IsListOf mode n (row_text q ++ []) (l.0 ++ Plain (byte ")") ∷ [])) (ap length (sym (append-nil (flat_map item_values q.items))))
            (subst (λ z. IsListOf mode (length (flat_map item_values q.items)) z (l.0 ++ Plain (byte ")") ∷ [])) (sym (append-nil (row_text q))) l.1),
      )
  rows_tokens width r q (p ∷ ps) e =
      let o = or_none (row_fault width r q.items) _ e in
      let l = row_tokens width r q.items o.0 in
      let m = rows_tokens width (r + 1) p ps o.1 in
      let front : List Token = l.0 ++ Plain (byte ")") ∷ [] in (
        front ++ comma_then m.0,
        subst (IsListOf mode (length (row_values (q ∷ p ∷ ps))) (joined (codes ", ") (map row_text (q ∷ p ∷ ps)))) (sym (append_assoc front (comma_then m.0) (Plain (byte ")") ∷ [])))
            (subst (λ n. IsListOf mode n (joined (codes ", ") (map row_text (q ∷ p ∷ ps))) (front ++ comma_then (m.0 ++ Plain (byte ")") ∷ [])))
            (sym (length-append (flat_map item_values q.items) (row_values (p ∷ ps))))
            (comma_lists mode (length (flat_map item_values q.items)) (length (row_values (p ∷ ps))) (row_text q) (joined (codes ", ") (map row_text (p ∷ ps))) front (m.0 ++ Plain (byte ")") ∷ []) l.1 m.1)),
      )

  -- ---- with the literals of their values

  module _ (write : Value → List ℕ) where
    pub literal_lists : List Value → List (List Token)
    literal_lists vs = map (λ v. tk mode (write v)) vs

    many : (vs : List Value) → length (literal_lists vs) ≡ length vs
    unfolding literal_lists
    many vs = length-map vs (λ v. tk mode (write v))

    pub literals_are : (vs : List Value) (lists : List (List Token)) → AreTokensOf mode (map write vs) lists → lists ≡ literal_lists vs
    unfolding literal_lists
    literals_are vs lists a = all_tokens mode write vs lists a

    -- the tokens of a place
    pub place_tokens : Fragment → List Token
    place_tokens f = with_literal_tokens (tk mode (fragment_text f)) (literal_lists (fragment_values f))

    pub place_is : (f : Fragment) (text : List ℕ) (vs : List Value) → fragment_text f ≡ text → fragment_values f ≡ vs →
        place_tokens f ≡ with_literal_tokens (tk mode text) (literal_lists vs)
    unfolding place_tokens
    place_is f text vs e h = λ i. with_literal_tokens (tk mode (e i)) (literal_lists (h i))

    pub AllMarked : List Fragment → Type 0
    AllMarked [] = ⊤
    AllMarked (f ∷ fs) = (length (fragment_values f) ≡ place_count (tk mode (fragment_text f))) × AllMarked fs

    marked : (f : Fragment) → fault_of f ≡ None → length (fragment_values f) ≡ place_count (tk mode (fragment_text f))
    marked f e =
        let l = list_of_shape mode (length (fragment_values f)) (fragment_text f) (fragment_shape mode f e) in
        l.1.own_places ∙ ap place_count (list_is mode (length (fragment_values f)) (fragment_text f) l.0 l.1)

    pub all_marked : (place : ℕ) (fs : List Fragment) → first_fault_from place fs ≡ None → AllMarked fs
    unfolding AllMarked
    all_marked place [] e = tt
    all_marked place (f ∷ fs) e =
        let p = or_none (option_map (λ fault. (place, fault)) (fault_of f)) (first_fault_from (place + 1) fs) e in
        (marked f (map_none _ (fault_of f) p.0), all_marked (place + 1) fs p.1)

    placed_one : (ts : List Token) (f : Fragment) (fs : List Fragment) (us : List Token) → length (fragment_values f) ≡ place_count (tk mode (fragment_text f)) →
        with_literal_tokens us (literal_lists (all_values fs)) ≡ with_literal_tokens ts (map place_tokens fs) →
        with_literal_tokens (tk mode (fragment_text f) ++ us) (literal_lists (all_values (f ∷ fs))) ≡ place_tokens f ++ with_literal_tokens ts (map place_tokens fs)
    unfolding place_tokens literal_lists
    placed_one ts f fs us m e =
        ap (with_literal_tokens (tk mode (fragment_text f) ++ us)) (map-append (λ v. tk mode (write v)) (fragment_values f) (all_values fs))
        ∙ with_literal_tokens-append (tk mode (fragment_text f)) us (literal_lists (fragment_values f)) (literal_lists (all_values fs)) (many (fragment_values f) ∙ m)
        ∙ ap (λ z. with_literal_tokens (tk mode (fragment_text f)) (literal_lists (fragment_values f)) ++ z) e

    pub placed : (ts : List Token) (fs : List Fragment) → AllMarked fs → length fs ≡ place_count ts →
        with_literal_tokens (with_literal_tokens ts (map (λ f. tk mode (fragment_text f)) fs)) (literal_lists (all_values fs)) ≡ with_literal_tokens ts (map place_tokens fs)
    unfolding AllMarked
    placed [] [] a n = refl
    placed [] (f ∷ fs) a n = absurd (omega (arith, n))
    placed (Name q ∷ ts) [] a n = absurd (omega (arith, n))
    placed (Name q ∷ ts) (f ∷ fs) a n = placed_one ts f fs (with_literal_tokens ts (map (λ f. tk mode (fragment_text f)) fs)) a.0 (placed ts fs a.1 (omega (arith, n)))
    placed (Mark ∷ ts) [] a n = absurd (omega (arith, n))
    placed (Mark ∷ ts) (f ∷ fs) a n = placed_one ts f fs (with_literal_tokens ts (map (λ f. tk mode (fragment_text f)) fs)) a.0 (placed ts fs a.1 (omega (arith, n)))
    placed (t ∷ ts) fs a n = ap (λ z. t ∷ z) (placed ts fs a n)

    -- rows, and others behind them
    filled_rows : (text : List ℕ) (list : List Token) (vs : List Value) → IsListOf mode (length vs) text (list ++ Plain (byte ")") ∷ []) →
        with_literal_tokens (list ++ Plain (byte ")") ∷ []) (literal_lists vs) ≡ with_literal_tokens list (literal_lists vs) ++ Plain (byte ")") ∷ []
    filled_rows text list vs f =
        ap (with_literal_tokens (list ++ Plain (byte ")") ∷ [])) (sym (append-nil (literal_lists vs)))
        ∙ with_literal_tokens-append list (Plain (byte ")") ∷ []) (literal_lists vs) [] (omega (
          arith,
          many vs,
          f.own_places,
          place_count-append list (Plain (byte ")") ∷ []),
        ))

    pub rows_left : (width r : ℕ) (q : Vec Item) (qs : List (Vec Item)) (p : Vec Item) (ps : List (Vec Item)) → rows_fault_from width r ((q ∷ qs) ++ (p ∷ ps)) ≡ None →
        PlaceLeft (with_literal_tokens (tk mode (joined (codes ", ") (map row_text (q ∷ qs)))) (literal_lists (row_values (q ∷ qs))))
        (with_literal_tokens (tk mode (joined (codes ", ") (map row_text ((q ∷ qs) ++ (p ∷ ps))))) (literal_lists (row_values ((q ∷ qs) ++ (p ∷ ps)))))
    unfolding literal_lists
    rows_left width r q qs p ps e =
        let s = rows_faults width r (q ∷ qs) (p ∷ ps) e in
        let a = rows_tokens width r q qs s.0 in
        let b = rows_tokens width s.1 p ps s.2 in
        let front : List ℕ = joined (codes ", ") (map row_text (q ∷ qs)) in
        let back : List ℕ = joined (codes ", ") (map row_text (p ∷ ps)) in
        let us : List Token = a.0 ++ Plain (byte ")") ∷ [] in
        let vs : List Token = b.0 ++ Plain (byte ")") ∷ [] in
        let m : ℕ = length (row_values (q ∷ qs)) in
        let n : ℕ = length (row_values (p ∷ ps)) in
        let text : joined (codes ", ") (map row_text ((q ∷ qs) ++ (p ∷ ps))) ≡ front ++ (codes ", " ++ back) =
        ap (λ z. joined (codes ", ") (row_text q ∷ z)) (map-append row_text qs (p ∷ ps)) ∙ joined-append (codes ", ") (row_text q) (map row_text qs) (map row_text (p ∷ ps)) in
        let tokens : tk mode (joined (codes ", ") (map row_text ((q ∷ qs) ++ (p ∷ ps)))) ≡ us ++ comma_then vs =
        ap (tk mode) text ∙ sym (list_is mode (m + n) (front ++ (codes ", " ++ back)) (us ++ comma_then vs) (comma_lists mode m n front back us vs a.1 b.1)) in
        let values : literal_lists (row_values ((q ∷ qs) ++ (p ∷ ps))) ≡ literal_lists (row_values (q ∷ qs)) ++ literal_lists (row_values (p ∷ ps)) =
        ap literal_lists (flat_map-append (λ x. flat_map item_values x.items) (q ∷ qs) (p ∷ ps)) ∙ map-append (λ v. tk mode (write v)) (row_values (q ∷ qs)) (row_values (p ∷ ps)) in
        let less : with_literal_tokens (tk mode front) (literal_lists (row_values (q ∷ qs))) ≡ with_literal_tokens a.0 (literal_lists (row_values (q ∷ qs))) ++ Plain (byte ")") ∷ [] =
        ap (λ z. with_literal_tokens z (literal_lists (row_values (q ∷ qs)))) (sym (list_is mode m front us a.1)) ∙ filled_rows front a.0 (row_values (q ∷ qs)) a.1 in
        let behind : with_literal_tokens vs (literal_lists (row_values (p ∷ ps))) ≡ with_literal_tokens b.0 (literal_lists (row_values (p ∷ ps))) ++ Plain (byte ")") ∷ [] =
        filled_rows back b.0 (row_values (p ∷ ps)) b.1 in
        let all : with_literal_tokens (tk mode (joined (codes ", ") (map row_text ((q ∷ qs) ++ (p ∷ ps))))) (literal_lists (row_values ((q ∷ qs) ++ (p ∷ ps))))
        ≡ (with_literal_tokens a.0 (literal_lists (row_values (q ∷ qs))) ++ Plain (byte ")") ∷ []) ++ (comma_then (with_literal_tokens b.0 (literal_lists (row_values (p ∷ ps)))) ++ Plain (byte ")") ∷ []) =
        (λ i. with_literal_tokens (tokens i) (values i))
        ∙ with_literal_tokens-append us (comma_then vs) (literal_lists (row_values (q ∷ qs))) (literal_lists (row_values (p ∷ ps)))
        (many (row_values (q ∷ qs)) ∙ a.1.own_places)
        ∙ (λ i. filled_rows front a.0 (row_values (q ∷ qs)) a.1 i ++ comma_then (behind i)) in
        place_by _ _ _ _ less all (place_out (with_literal_tokens a.0 (literal_lists (row_values (q ∷ qs)))) (comma_then (with_literal_tokens b.0 (literal_lists (row_values (p ∷ ps))))))
