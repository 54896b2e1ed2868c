-- The promises about a text that is written into a slice of the caller.
use Rattle.std.specs.Prelude.{Bool, Result, Ok, Err, IfOk, IfSome}
use Rattle.std.proofs.Common.{◌≡◌, ℕ, List, [], ◌∷◌, Some, subst}
use Rattle.mysql_values.specs.declared.value.Value.{Value}
use Rattle.mysql_values.specs.Value.{FieldsInRange}
use Rattle.mysql_values.specs.Literal.{literal_of}
use Rattle.mysql_values.specs.ReadBack.{ReadsAs}
use Rattle.mysql_value_core.proofs.LiteralLemmas.{literal_shape, literal_reads}
use Rattle.mysql_sql_text.specs.LiteralShape.{IsLiteral}
use Rattle.mysql_named_params.specs.Tokens.{Token}
use Rattle.mysql_named_params.specs.Reading.{IsTokensIn, OnTokensIn}
use Rattle.mysql_named_params.specs.declared.places.Reading.{Reading}
use Rattle.mysql_params_core.specs.Given.{Given}
use Rattle.mysql_binding.specs.Isolation.{IsBoundText}
use Rattle.mysql_binding.specs.LiteralForm.{Literals, LiteralFacts, AreWrittenAs, IsPlainLiteral}
use Rattle.mysql_binding.specs.MeasuredText.{HasGivenLength, IsOfFields}
use Rattle.mysql_binding.specs.TextInRoom.{HasTextOf, IsTextInRoom}
use Rattle.mysql_binding.specs.WrittenText.{IsGivenText}
use Rattle.mysql_binding.specs.declared.binding.room.TextInRoom.{TextInRoom}
use Rattle.mysql_binding.specs.declared.binding.room.TextInRoom.TheVariants.{Written, TooShort}
use Rattle.mysql_binding.proofs.BoundTextLemmas.{is_bound_text}

-- the facts about the literals of a form, as soon as the fields of the values are in range
module _ (literal : Literals) (IsKnown : LiteralFacts) (known : (v : Value) (text : List ℕ) → FieldsInRange v → literal v ≡ Some text → IsKnown v text) where
  known_texts : (values : List Value) (texts : List (List ℕ)) → AreWrittenAs literal IsOfFields values texts → AreWrittenAs literal IsKnown values texts
  known_texts [] [] h = tt
  known_texts [] (text ∷ texts) h = absurd h
  known_texts (v ∷ values) [] h = absurd h
  known_texts (v ∷ values) (text ∷ texts) h = (h.0, known v text h.1 h.0, known_texts values texts h.2)

  pub known_text : (ts : List Token) (given : Given) (text : List ℕ) → IsGivenText literal IsOfFields ts given text → IsGivenText literal IsKnown ts given text
  known_text ts given text g = record {
    no_cause = g.no_cause;
    values = g.values;
    looked_up = g.looked_up;
    written_text = record {
      literals = g.written_text.literals;
      written = known_texts g.values g.written_text.literals g.written_text.written;
      text_is = g.written_text.text_is;
    };
  }

-- a fact about each text is a fact about a text in a room
pub each_in_room : (IsText IsOther : List ℕ → Type 0) (HasLength : ℕ → Type 0) (old new : List ℕ) (text : TextInRoom) →
    ((x : List ℕ) → IsText x → IsOther x) → ((len : ℕ) → HasLength len → HasTextOf IsOther len) →
    IsTextInRoom IsText HasLength old new text → IsTextInRoom IsOther (HasTextOf IsOther) old new text
each_in_room IsText IsOther HasLength old new (Written len) each known (fits, is, rest) = (fits, each _ is, rest)
each_in_room IsText IsOther HasLength old new (TooShort len) each known (long, has, same) = (long, known len has, same)

-- ---- plain literals

pub plain_known : (mode : Bool) (v : Value) (text : List ℕ) → FieldsInRange v → literal_of mode v ≡ Some text → IsPlainLiteral mode v text
plain_known mode v text range is = (
  subst (λ o. IfSome o (IsLiteral mode)) is (literal_shape mode v range),
  subst (λ o. IfSome o (ReadsAs mode v)) is (literal_reads mode v range),
  range,
)

-- the length of a bound text, before it is made
pub bound_length : (reading : Reading) (query : List ℕ) (ts : List Token) (given : Given) (len : ℕ) → IsTokensIn reading query ts →
    HasGivenLength (literal_of reading.no_backslash_escape) ts given len → HasTextOf (IsBoundText reading.no_backslash_escape ts given) len
bound_length reading query ts given len is (text, g, long) =
    (text, is_bound_text reading query ts given text is (known_text (literal_of reading.no_backslash_escape) (IsPlainLiteral reading.no_backslash_escape) (plain_known reading.no_backslash_escape) ts given text g), long)

pub bound_in_room : {E : Type 0} (reading : Reading) (query : List ℕ) (given : Given) (old new : List ℕ) (r : Result TextInRoom E) →
    OnTokensIn reading query (λ ts. IfOk r (IsTextInRoom (IsGivenText (literal_of reading.no_backslash_escape) (IsPlainLiteral reading.no_backslash_escape) ts given) (HasGivenLength (literal_of reading.no_backslash_escape) ts given) old new)) →
    OnTokensIn reading query (λ ts. IfOk r (IsTextInRoom (IsBoundText reading.no_backslash_escape ts given) (HasTextOf (IsBoundText reading.no_backslash_escape ts given)) old new))
bound_in_room reading query given old new (Ok text) o = (
  o.0,
  o.1,
  each_in_room _ _ _ old new text (λ x g. is_bound_text reading query o.0 given x o.1 g) (λ len. bound_length reading query o.0 given len o.1) o.2,
)
bound_in_room reading query given old new (Err e) o = (o.0, o.1, tt)
