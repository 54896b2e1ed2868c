-- The text of a constant query with the literals of values in its places. It is computed, so that a
-- caller's clause can write it out.
use Rattle.std.specs.Prelude.{ℕ, Bool, List, [], map, unwrap_or}
use Rattle.std.specs.Ordering.{nat_cmp}
use Rattle.std.specs.Cmp.Lexicographic.{slice_cmp}
use Rattle.std.specs.FinMap.{find}
use Rattle.mysql_values.specs.declared.value.Value.{Value}
use Rattle.mysql_values.specs.declared.value.Value.TheVariants.{NULL}
use Rattle.mysql_values.specs.Literal.{literal_text}
use Rattle.mysql_named_params.specs.Tokens.{Token}
use Rattle.mysql_named_params.specs.TokensOf.{tokens_of}
use Rattle.mysql_named_params.specs.NamesAndMarks.{names}
use Rattle.mysql_binding.specs.Pieces.{pieces, joined_text}
use Rattle.mysql_steady_text.specs.SteadyLiteral.{steady_literal_text}
use Rattle.mysql_steady_text.specs.declared.purpose.Purpose.{Purpose}
use Rattle.mysql_steady_text.specs.declared.purpose.Scope.{Scope}
use Rattle.mysql_steady_text.specs.declared.purpose.Scope.TheVariants.{OneMode, EitherMode, AnyConnection}
use Rattle.mysql_fixed_query.specs.Bindable.{tokens_for}

-- The text of a query of these tokens with the literals of these values in its places, in order.
-- There are as many values as places, and none is a float, which has no literal.
abbrev pub text_with : (Value → List ℕ) → List Token → List Value → List ℕ
text_with literal ts values = unwrap_or (joined_text (pieces ts) (map literal values)) []

-- the text of a query with these values in its places
abbrev pub bound_text : Bool → List ℕ → List Value → List ℕ
bound_text mode query = text_with (literal_text mode) (tokens_of mode query)

-- the value of the first pair with this name; each name of a query that is bound has a pair
abbrev pub value_named : List (List ℕ × Value) → List ℕ → Value
value_named pairs name = unwrap_or (find (slice_cmp nat_cmp) name pairs) NULL

-- the values that pairs give to the names of a query of these tokens, in the order of its places
abbrev pub values_for : List Token → List (List ℕ × Value) → List Value
values_for ts pairs = map (value_named pairs) (names ts)

-- the values that pairs give to the names of a query
abbrev pub values_named : Bool → List ℕ → List (List ℕ × Value) → List Value
values_named mode query = values_for (tokens_of mode query)

-- the literal of a value in a scope: the plain one of the mode for one mode, else the steady one
abbrev pub scope_literal : Scope → Value → List ℕ
scope_literal (OneMode mode) = literal_text mode
scope_literal EitherMode = steady_literal_text
scope_literal AnyConnection = steady_literal_text

-- the text of a query for a purpose, with these values in its places
abbrev pub text_for : Purpose → List ℕ → List Value → List ℕ
text_for purpose query = text_with (scope_literal purpose.scope) (tokens_for purpose query)
