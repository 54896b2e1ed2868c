-- Queries that fit exactly the parameters that are given to them, so that out of memory is the only
-- error of binding them. The prover computes these facts for a constant query. A mode is the flag
-- `no_backslash_escape`: `true` is the mode without backslash escapes.
use Rattle.std.specs.Prelude.{◌≡◌, ◌<◌, ℕ, Bool, true, false, not, ◌&&◌, List, [], ◌∷◌, ◌++◌, length, map, None, Ok, Err, IsTrue}
use Rattle.std.specs.List.{list_all, list_any}
use Rattle.std.specs.Ordering.{eq_by_cmp, nat_cmp}
use Rattle.std.specs.Cmp.Lexicographic.{slice_cmp}
use Rattle.std.specs.FinMap.{from_entries}
use Rattle.mysql_sql_text.specs.StringUnits.{without_backslashes}
use Rattle.mysql_values.specs.declared.value.Value.{Value}
use Rattle.mysql_values.specs.Literal.{is_float}
use Rattle.mysql_values.specs.ValueOf.{Meaning}
use Rattle.mysql_named_params.specs.Tokens.{Token}
use Rattle.mysql_named_params.specs.TokensOf.{tokens_of}
use Rattle.mysql_named_params.specs.NamesAndMarks.{names, marks}
use Rattle.mysql_named_params.specs.WideNames.{widened}
use Rattle.mysql_named_params.specs.declared.places.Reading.{Reading}
use Rattle.mysql_params_core.specs.GivenValues.{Given, empty, named, positional}
use Rattle.mysql_params_core.specs.Made.{Made}
use Rattle.mysql_binding.specs.FirstNotAlone.{first_not_alone}
use Rattle.mysql_binding.specs.FirstCause.{first_float}
use Rattle.mysql_steady_text.specs.Purposes.{query_refusal, reading_for}
use Rattle.mysql_steady_text.specs.declared.purpose.Purpose.{Purpose}

-- tokens with wide names, or as they are
abbrev pub named_by : (wide_names : Bool) → List Token → List Token
named_by true ts = widened ts
named_by false ts = ts

-- the tokens of a query in a reading
abbrev pub tokens_in : Reading → List ℕ → List Token
tokens_in reading query = named_by reading.wide_names (tokens_of reading.no_backslash_escape query)

-- The tokens of a query for a purpose. If the query isn't refused for it, they are the same in each
-- mode of the purpose.
abbrev pub tokens_for : Purpose → List ℕ → List Token
tokens_for purpose = tokens_in (reading_for purpose without_backslashes)

-- the query isn't refused for the purpose
abbrev pub IsAcceptedFor : Purpose → List ℕ → Type 0
IsAcceptedFor purpose query = query_refusal purpose query (tokens_for purpose query) ≡ None

-- the names of pairs
abbrev pub pair_names : {A : Type 0} → List (List ℕ × A) → List (List ℕ)
pair_names pairs = map (λ pair. pair.0) pairs

-- whether the name is one of these
abbrev pub is_among : List (List ℕ) → List ℕ → Bool
is_among names name = list_any (eq_by_cmp (slice_cmp nat_cmp) name) names

-- whether each name is none of those before it, and none of the first list
abbrev pub are_new : List (List ℕ) → List (List ℕ) → Bool
are_new known [] = true
are_new known (name ∷ names) = not (is_among known name) && are_new (known ++ name ∷ []) names

-- whether the thing has a value, which isn't a float
abbrev pub has_literal : Meaning → Bool
has_literal (Ok value) = not (is_float value)
has_literal (Err duration) = false

-- whether each thing of the pairs has a value, and none is a float
abbrev pub have_literals : List (List ℕ × Meaning) → Bool
have_literals pairs = list_all (λ pair. has_literal pair.1) pairs

-- a query of these tokens fits these pairs of a name and a thing: out of memory is the only error
-- of binding it to them, and each pair is used
pub record Fits (ts : List Token) (pairs : List (List ℕ × Meaning)) : Type 0 where
  -- it has a name and no mark,
  pub has_name : 0 < length (names ts)
  pub no_mark : marks ts ≡ 0
  -- each of its places stands alone,
  pub alone : first_not_alone ts ≡ None
  -- each of its names is that of a pair, and each pair's name is one of its names,
  pub given : IsTrue (list_all (is_among (pair_names pairs)) (names ts))
  pub wanted : IsTrue (list_all (is_among (names ts)) (pair_names pairs))
  -- no two pairs have the same name,
  pub differ : IsTrue (are_new [] (pair_names pairs))
  -- and each thing has a value, which isn't a float.
  pub literals : IsTrue (have_literals pairs)

-- the query fits these pairs, by the names of the grammar
abbrev pub IsBindable : Bool → List ℕ → List (List ℕ × Meaning) → Type 0
IsBindable mode query = Fits (tokens_of mode query)

-- the pairs with the values of their things, without the things that have none
abbrev pub valued : List (List ℕ × Meaning) → List (List ℕ × Value)
valued [] = []
valued ((name, Ok value) ∷ pairs) = (name, value) ∷ valued pairs
valued ((name, Err duration) ∷ pairs) = valued pairs

-- the parameters that pairs of a name and a value give to a query
abbrev pub given_by : List (List ℕ × Value) → Given
given_by pairs = named (from_entries pairs)

-- whether these are values by position, or nothing
abbrev pub is_by_position : Made → Bool
is_by_position (Ok empty) = true
is_by_position (Ok (positional values)) = true
is_by_position (Ok (named entries)) = false
is_by_position (Err refusal) = false

-- the values by position; there are none if nothing is made by position
abbrev pub values_of : Made → List Value
values_of (Ok (positional values)) = values
values_of made = []

-- a query of these tokens fits the parameters that things made, by position: out of memory is the
-- only error of binding it to them
pub record FitsByPosition (ts : List Token) (made : Made) : Type 0 where
  -- these are values by position, or nothing,
  pub by_position : IsTrue (is_by_position made)
  -- it has no name, and as many marks as there are values,
  pub no_name : names ts ≡ []
  pub count : marks ts ≡ length (values_of made)
  -- each of its places stands alone,
  pub alone : first_not_alone ts ≡ None
  -- and no value is a float.
  pub literals : first_float (values_of made) ≡ None

-- the query fits these parameters, by the marks of the grammar
abbrev pub IsBindableByPosition : Bool → List ℕ → Made → Type 0
IsBindableByPosition mode query = FitsByPosition (tokens_of mode query)
