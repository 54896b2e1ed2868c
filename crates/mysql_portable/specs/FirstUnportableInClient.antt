-- The first construct for which a query isn't portable on servers, or for which a client that keeps
-- comments sends something else: its kind and its position.
use Rattle.std.specs.Prelude.{◌≡◌, ◌+◌, ◌&&◌, not, ℕ, Bool, true, false, List, [], ◌∷◌, if◌then◌else◌, length, Option, Some, None, ⊤}
use Rattle.mysql_named_params.specs.Tokens.{Token, bytes_of, text_of, Mark}
use Rattle.mysql_portable.specs.Portable.{is_read_alike, joins_number, IsPortable}
use Rattle.mysql_portable.specs.Client.{HoldNoOpener}
use Rattle.mysql_portable.specs.FirstUnportable.{construct_at}
use Rattle.mysql_portable.specs.FoundInClient.{begins_statement, begins_line, found_in_client}
use Rattle.mysql_portable.specs.declared.portable.Construct.{Construct}
use Rattle.mysql_portable.specs.declared.portable.Unportable.{Unportable}

-- the construct at this position if there is one, or else the later one
abbrev pub found_or : Option Construct → ℕ → Option Unportable → Option Unportable
found_or (Some found) at later = Some (record { construct = found; at = at })
found_or None at later = later

-- the construct of this token before this text; a construct of servers comes first
abbrev pub found_at : Bool → Bool → Token → List ℕ → Option Construct
found_at statement line t rest =
    if is_read_alike t rest && not (joins_number t rest) then found_in_client statement line t rest
    else Some (construct_at t rest)

-- Kind and position of the first construct, if the tokens begin at the position `at`. `statement`
-- and `line` say whether a statement or a line may begin there.
abbrev pub first_in_client_from : ℕ → Bool → Bool → List Token → Option Unportable
first_in_client_from at statement line [] = None
first_in_client_from at statement line (t ∷ ts) =
    found_or (found_at statement line t (text_of ts)) at
    (first_in_client_from (at + length (bytes_of t)) (begins_statement statement t)
    (begins_line line t) ts)

-- kind and position of the first construct of a query
abbrev pub first_unportable_in_client : List Token → Option Unportable
first_unportable_in_client = first_in_client_from 0 true true

-- nothing is found in the tokens for the client, if a statement or a line may begin there
abbrev pub AreSentAsTheyAreFrom : Bool → Bool → List Token → Type 0
AreSentAsTheyAreFrom statement line [] = ⊤
AreSentAsTheyAreFrom statement line (t ∷ ts) =
    (found_in_client statement line t (text_of ts) ≡ None)
    × AreSentAsTheyAreFrom (begins_statement statement t) (begins_line line t) ts

-- nothing is found in the tokens of a query for the client
abbrev pub AreSentAsTheyAre : List Token → Type 0
AreSentAsTheyAre = AreSentAsTheyAreFrom true true

-- the same, except at marks
abbrev pub AreSentExceptMarksFrom : Bool → Bool → List Token → Type 0
AreSentExceptMarksFrom statement line [] = ⊤
AreSentExceptMarksFrom statement line (Mark ∷ ts) = AreSentExceptMarksFrom false false ts
AreSentExceptMarksFrom statement line (t ∷ ts) =
    (found_in_client statement line t (text_of ts) ≡ None)
    × AreSentExceptMarksFrom (begins_statement statement t) (begins_line line t) ts

-- nothing is found in the tokens of a query for the client, except at marks
abbrev pub AreSentExceptMarks : List Token → Type 0
AreSentExceptMarks = AreSentExceptMarksFrom true true

-- the query of these tokens is portable on servers and in a client that keeps comments
pub record IsPortableInClient (ts : List Token) : Type 0 where
  -- it is portable
  pub portable : IsPortable ts
  -- the client reads it like a server (`client_is_a_server`)
  pub no_opener : HoldNoOpener ts
  -- the client only reads and sends it
  pub sent : AreSentAsTheyAre ts
