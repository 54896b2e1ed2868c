-- What is found of the items of a JSON array, one after another.
use Rattle.std.proofs.Common.{map, ◌≡◌, ◌∙◌, ℕ, ◌+◌, ◌<◌, List, ◌∷◌, length, drop, get_or, refl, sym, ap, arith, Option, None, Some, Bool, true, false, true≢false}
use Rattle.std.specs.Prelude.{is_some}
use Rattle.std.specs.Option.{option_or}
use Rattle.std.specs.Global.{Global}
use Rattle.std.proofs.lemmas.List.{get_or-map, length-map}
use Rattle.json.specs.Json.{Json}
use Rattle.json.specs.Value.{value_view}
use Rattle.json.specs.declared.value.Value.{Value}
use Rattle.mysql_bind_core.specs.JsonMembers.{first_refused, refused_type}
use Rattle.mysql_bind_core.specs.declared.json_value.Decimals.{Decimals}
use Rattle.mysql_query_core.proofs.WordLemmas.{drop_index}

-- the first of the items from the one at i on
first_at : (d : Decimals) (xs : List Json) (i : ℕ) (x : Json) → i < length xs → x ≡ get_or xs i x
    → first_refused d (drop i xs) ≡ option_or (refused_type d x) (first_refused d (drop (i + 1) xs))
first_at d xs i x below at =
    ap (first_refused d) (drop_index xs i x below) ∙ ap (λ y. first_refused d (y ∷ drop (i + 1) xs)) (sym at)

-- the same for the values that these items stand for
pub first_value_at : (d : Decimals) (vs : List (Value Global)) (i : ℕ) (v : Value Global) → i < length vs
    → v ≡ get_or vs i v
    → first_refused d (drop i (map value_view vs))
    ≡ option_or (refused_type d (value_view v)) (first_refused d (drop (i + 1) (map value_view vs)))
first_value_at d vs i v below at =
    first_at d (map value_view vs) i (value_view v) (omega (arith, length-map vs value_view, below))
    (ap value_view at ∙ sym (get_or-map value_view vs i v (value_view v) below))

-- what an option has, if it has something
pub some_of : {X : Type 0} (o : Option X) → is_some o ≡ true → (x : X) × (o ≡ Some x)
some_of None some = absurd (true≢false (sym some))
some_of (Some x) some = (x, refl)

-- an option that has nothing
pub none_of : {X : Type 0} (o : Option X) → is_some o ≡ false → o ≡ None
none_of None none = refl
none_of (Some x) none = absurd (true≢false none)
