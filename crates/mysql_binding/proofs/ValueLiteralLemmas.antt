-- The literals of values in a form, one after another.
use Rattle.std.specs.Prelude.{is_none, unwrap_or}
use Rattle.std.proofs.Common.{◌≡◌, Bool, true, false, ℕ, ◌+◌, ◌<◌, List, [], ◌∷◌, ◌++◌, map, drop, length, get_or, refl, sym, ap, ◌∙◌, cond, arith, drop-cons, add-one, Option, Some, None}
use Rattle.mysql_values.specs.declared.value.Value.{Value}
use Rattle.mysql_values.specs.Literal.{is_float}
use Rattle.mysql_binding.specs.FirstCause.{first_float_from}
use Rattle.mysql_binding.specs.LiteralForm.{Literals, LiteralFacts, LackFloats, AreWrittenAs, written_literal}

-- a value that is no float has a literal
pub has_literal : (literal : Literals) → LackFloats literal → (v : Value) → is_float v ≡ false →
    literal v ≡ Some (written_literal literal v)
has_literal literal floats v e = some (literal v) (floats v ∙ e)
  where
    some : (o : Option (List ℕ)) → is_none o ≡ false → o ≡ Some (unwrap_or o [])
    some None h = cc
    some (Some text) h = refl

module _ (literal : Literals) (IsKnown : LiteralFacts) where
  pub AreWrittenAs-push : (values : List Value) (texts : List (List ℕ)) (v : Value) (text : List ℕ) →
      AreWrittenAs literal IsKnown values texts → literal v ≡ Some text → IsKnown v text →
      AreWrittenAs literal IsKnown (values ++ v ∷ []) (texts ++ text ∷ [])
  AreWrittenAs-push [] [] v text hs e k = (e, k, tt)
  AreWrittenAs-push [] (t ∷ texts) v text hs e k = absurd hs
  AreWrittenAs-push (w ∷ values) [] v text hs e k = absurd hs
  AreWrittenAs-push (w ∷ values) (t ∷ texts) v text hs e k = (hs.0, hs.1, AreWrittenAs-push values texts v text hs.2 e k)

  pub as_many_texts : (values : List Value) (texts : List (List ℕ)) → AreWrittenAs literal IsKnown values texts →
      length texts ≡ length values
  as_many_texts [] [] h = refl
  as_many_texts [] (t ∷ texts) h = absurd h
  as_many_texts (v ∷ values) [] h = absurd h
  as_many_texts (v ∷ values) (t ∷ texts) h = omega (arith, as_many_texts values texts h.2)

  -- they are the literals of the values
  pub mapped_literals : (values : List Value) (texts : List (List ℕ)) → AreWrittenAs literal IsKnown values texts →
      map literal values ≡ map Some texts
  mapped_literals [] [] h = refl
  mapped_literals [] (t ∷ texts) h = absurd h
  mapped_literals (v ∷ values) [] h = absurd h
  mapped_literals (v ∷ values) (t ∷ texts) h =
      ap (λ x. x ∷ map literal values) h.0 ∙ ap (λ xs. Some t ∷ xs) (mapped_literals values texts h.2)

-- the next value is no float, if there is none from its place on
pub none_step : (b : Bool) (place : ℕ) (rest : Option ℕ) → cond b (Some place) rest ≡ None →
    (b ≡ false) × (rest ≡ None)
none_step true place rest e = cc
none_step false place rest e = (refl, e)

pub no_float : (values : List Value) (i : ℕ) (v : Value) → i < length values →
    v ≡ get_or values i v → first_float_from i (drop i values) ≡ None →
    (is_float v ≡ false) × (first_float_from (i + 1) (drop (i + 1) values) ≡ None)
no_float values i v h e none =
    let cut : drop i values ≡ get_or values i v ∷ drop (i + 1) values = rw add-one (drop-cons values i v h) in
    let same : drop i values ≡ v ∷ drop (i + 1) values = cut ∙ ap (λ x. x ∷ drop (i + 1) values) (sym e) in
    none_step (is_float v) i _ (sym (ap (λ x. first_float_from i x) same) ∙ none)
