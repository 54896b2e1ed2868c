-- The fragments that assignments give to the names of a query, and the text of these fragments.
use Rattle.std.specs.Prelude.{◌≡◌, ℕ, List, [], fold, if◌then◌else◌, Result, Ok, Err}
use Rattle.std.specs.Borrow.{Bor}
use Rattle.std.specs.FinMap as finite
use Rattle.mysql_values.specs.declared.value.Value.{Value}
use Rattle.mysql_values.specs.Literal.{literal_text}
use Rattle.mysql_named_params.specs.Tokens.{Token}
use Rattle.mysql_portable.specs.SteadyBytes.{IsSteady}
use Rattle.mysql_steady_text.specs.SteadyLiteral.{steady_literal_text}
use Rattle.mysql_fragments.specs.GivenFragments.{FragmentMap, GivenFragments, named, positional}
use Rattle.mysql_fragments.specs.TextOfFragments.{IsTextOfFragments}
use Rattle.mysql_fragments.specs.declared.fragment.Fragment.{Fragment}
use Rattle.mysql_bind_core.specs.Contents.{Content, said}
use Rattle.mysql_bind_core.specs.Requests.{IsReadIn}
use Rattle.mysql_bind_core.specs.declared.assignment.Assignment.{Assignment}
use Rattle.mysql_bind_core.specs.declared.request.Literals.{Literals}
use Rattle.mysql_bind_core.specs.declared.request.Literals.TheVariants as literals

-- a name as bytes, and its fragment
abbrev pub pair_seen : Bor (List ℕ) × Fragment → List ℕ × Fragment
pair_seen pair = (pair.0.now, pair.1)

-- the name of a fragment, and the content of the fragment
abbrev pub pair_said : List ℕ × Fragment → List ℕ × Content
pair_said pair = (pair.0, said pair.1)

-- fragments by name, or the name that comes twice
abbrev pub Entries : Type 0
Entries = Result FragmentMap (List ℕ)

-- the fragments with one more, whose name may not be among them yet; a refusal stays
abbrev pub with_fragment : Entries → List ℕ × Fragment → Entries
with_fragment (Ok entries) pair =
    if finite.contains_key entries pair.0 then Err pair.0
    else Ok (finite.insert entries pair.0 pair.1)
with_fragment (Err name) pair = Err name

-- the fragments of pairs by name, or the first name that comes twice
abbrev pub entries_of : List (List ℕ × Fragment) → Entries
entries_of pairs = fold with_fragment (Ok finite.empty) pairs

-- the fragments of assignments, as they are given to a query with these names; without assignments
-- nothing is given to a query without names
abbrev pub given_to : List Assignment → FragmentMap → List (List ℕ) → GivenFragments
given_to [] entries [] = positional []
given_to assignments entries names = named entries

-- the literal of a value, of the kind that is asked for
abbrev pub asked_literal : Literals → Value → List ℕ
asked_literal literals.Steady = steady_literal_text
asked_literal (literals.Plain mode) = literal_text mode

-- the text of a query with these tokens and fragments, with the literals that are asked for
pub record IsAskedText (asked : Literals) (ts : List Token) (given : GivenFragments) (text : List ℕ)
    : Type 0 where
  pub placed : IsTextOfFragments (asked_literal asked) (IsReadIn asked) ts given text
  -- if steady literals are asked for, all of it is steady
  pub steady : asked ≡ literals.Steady → IsSteady text
