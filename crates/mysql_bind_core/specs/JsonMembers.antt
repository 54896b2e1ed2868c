-- The types and the bytes that members of JSON objects give to names. A list is written as JSON
-- again, so that each of its numbers is taken as `Decimals` says.
use Rattle.std.specs.Prelude.{ℕ, Bool, true, false, List, [], ◌∷◌, ◌++◌, codes, if◌then◌else◌, Option, None, Some, is_some, option_map}
use Rattle.std.specs.Option.{option_or}
use Rattle.json.specs.Json.{Json, null, boolean, number, string, array, object}
use Rattle.json.specs.Print.{print}
use Rattle.json.specs.Token.{Token}
use Rattle.json.specs.Token as token
use Rattle.json.specs.Word.{after_number}
use Rattle.mysql_bind_core.specs.Contents.{all_of, content, has_exponent, list_of}
use Rattle.mysql_bind_core.specs.JsonValues.{number_type, scalar_said}
use Rattle.mysql_bind_core.specs.Tables.{CellSaid}
use Rattle.mysql_bind_core.specs.declared.json_value.Decimals.{Decimals}
use Rattle.mysql_bind_core.specs.declared.value_type.ValueType.{ValueType}
use Rattle.mysql_bind_core.specs.declared.value_type.ValueType.TheVariants as type

-- ---- the items of a list

-- nothing is left of a text
abbrev pub is_end : Option (List ℕ) → Bool
is_end (Some []) = true
is_end (Some (b ∷ bs)) = false
is_end None = false

-- a text as a number of JSON; as a string, if it is none
abbrev pub number_or_string : List ℕ → Token
number_or_string text =
    if is_end (after_number text) then token.number text else token.string text

-- the text of a double, which has an exponent in a list
abbrev pub with_exponent : List ℕ → List ℕ
with_exponent text = if has_exponent text then text else text ++ codes "e0"

-- a number of this type as an item
abbrev pub number_as : ValueType → List ℕ → Token
number_as type.Text text = token.string text
number_as type.Double text = number_or_string (with_exponent text)
number_as value_type text = number_or_string text

-- a JSON value as an item; none of a list and of an object
abbrev pub item_token : Decimals → Json → Option Token
item_token decimals null = Some token.null
item_token decimals (boolean truth) = Some (token.boolean truth)
item_token decimals (number text) = Some (number_as (number_type decimals text) text)
item_token decimals (string text) = Some (token.string text)
item_token decimals (array _) = None
item_token decimals (object _) = None

-- the text of a list of these values; none if one of them is a list or an object
abbrev pub list_text : Decimals → List Json → Option (List ℕ)
list_text decimals values =
    option_map (λ items. print (token.begin_array ∷ (items ++ token.end_array ∷ [])))
    (all_of (item_token decimals) values)

-- ---- members

-- the type of a number that isn't what its type takes
abbrev pub refused_type : Decimals → Json → Option ValueType
refused_type decimals (number text) =
    if is_some (content (number_type decimals text) text) then None
    else Some (number_type decimals text)
refused_type decimals json = None

-- the type of the first such number
abbrev pub first_refused : Decimals → List Json → Option ValueType
first_refused decimals [] = None
first_refused decimals (json ∷ rest) =
    option_or (refused_type decimals json) (first_refused decimals rest)

-- The type and the bytes of a list. If a number isn't what its type takes, they are that type and a
-- sign, which is no number. So the list is refused as this number would be.
abbrev pub list_said : Decimals → List Json → Option CellSaid
list_said decimals values =
    option_or (option_map (λ value_type. (value_type, codes "-")) (first_refused decimals values))
    (option_map (λ text. (type.List, text)) (list_text decimals values))

-- the type and the bytes of a member; none of an object, and of a list with a list or an object
abbrev pub member_said : Decimals → Json → Option CellSaid
member_said decimals (array items) = list_said decimals (list_of items)
member_said decimals json = scalar_said decimals json
