-- The shape of the text that is put in a place of a query, with the number of its marks. It is a
-- mark, a literal, a steady literal, an exact number, a double, an identifier, a keyword, an
-- assignment, or several of these in a list or a row.
use Rattle.std.specs.Prelude.{◌+◌, ℕ, Bool, IsTrue, IsFalse, List, [], ◌∷◌, ◌++◌, codes, ⊤}
use Rattle.mysql_sql_text.specs.LiteralShape.{AreDigits, IsLiteral}
use Rattle.mysql_portable.specs.SteadyBytes.{IsSteady}
use Rattle.mysql_float_literal.specs.DoubleShape.{IsDouble}
use Rattle.mysql_steady_text.specs.SteadyShape.{IsSteadyLiteral}
use Rattle.mysql_fragments.specs.FragmentFaults.{escapes_end, is_keyword}
use Rattle.mysql_fragments.specs.FragmentText.{identifier_text}

-- identifiers in backquotes with `.` between them, with no backslash directly before a backquote
pub data IsIdentifier : List ℕ → Type 0 where
  one_name : (name : List ℕ) → IsFalse (escapes_end name) → IsIdentifier (identifier_text name)
  more_names : (name more : List ℕ) → IsFalse (escapes_end name) → IsIdentifier more →
      IsIdentifier (identifier_text name ++ (codes "." ++ more))

-- the text has the shape of a fragment with this number of marks
pub data IsFragment (mode : Bool) : ℕ → List ℕ → Type 0 where
  -- `?`
  mark_fragment : IsFragment mode 1 (codes "?")
  -- a literal, such as a whole number
  literal_fragment : (literal : List ℕ) → IsLiteral mode literal → IsFragment mode 0 literal
  -- a steady literal
  steady_fragment : (literal : List ℕ) → IsSteadyLiteral literal → IsSteady literal →
      IsFragment mode 0 literal
  -- digits, a point and digits: an exact number
  decimal_fragment : (whole fraction : List ℕ) → AreDigits whole → AreDigits fraction →
      IsFragment mode 0 (whole ++ (codes "." ++ fraction))
  -- .. with a sign
  negative_decimal_fragment : (whole fraction : List ℕ) → AreDigits whole → AreDigits fraction →
      IsFragment mode 0 (codes "-" ++ (whole ++ (codes "." ++ fraction)))
  -- a double: a number with an exponent
  double_fragment : (text : List ℕ) → IsDouble text → IsFragment mode 0 text
  -- an identifier
  identifier_fragment : (text : List ℕ) → IsIdentifier text → IsFragment mode 0 text
  -- a keyword
  keyword_fragment : (text : List ℕ) → IsTrue (is_keyword text) → IsFragment mode 0 text
  -- an assignment: a column, ` = ` and the item that it is set to
  assignment_fragment : (n : ℕ) (column value : List ℕ) → IsIdentifier column →
      IsFragment mode n value → IsFragment mode n (column ++ (codes " = " ++ value))
  -- one after another, with `, ` between them
  list_fragment : (n k : ℕ) (first more : List ℕ) → IsFragment mode n first →
      IsFragment mode k more → IsFragment mode (n + k) (first ++ (codes ", " ++ more))
  -- in brackets
  row_fragment : (n : ℕ) (inner : List ℕ) → IsFragment mode n inner →
      IsFragment mode n (codes "(" ++ (inner ++ codes ")"))

-- each of the texts has the shape of a fragment with this number of marks
abbrev pub AreFragments : Bool → List ℕ → List (List ℕ) → Type 0
AreFragments mode [] [] = ⊤
AreFragments mode [] (text ∷ texts) = ⊥
AreFragments mode (n ∷ counts) [] = ⊥
AreFragments mode (n ∷ counts) (text ∷ texts) =
    IsFragment mode n text × AreFragments mode counts texts
