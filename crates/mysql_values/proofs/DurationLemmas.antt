-- A duration that was converted keeps the value that it was made of.
use Rattle.std.proofs.Common.{◌≡◌, ℕ, ◌*◌, Bool, true, false, List, refl, Ok, Err, Some, None, Option, Result, ap, subst, sym, ◌∙◌}
use Rattle.std.specs.Option.{option_map, option_and_then}
use Rattle.std.specs.Duration.{as_nanos}
use Rattle.std.specs.declared.time.Duration.{Duration}
use Rattle.std.proofs.lemmas.Option.{same_Some}
use Rattle.mysql_value_core.specs.declared.value.Value.{Value}
use Rattle.mysql_value_core.specs.declared.value.Value.TheVariants.{Bytes, Time}
use Rattle.mysql_value_core.specs.declared.value.convert.FromValueError.{FromValueError}
use Rattle.mysql_value_core.specs.FromValue.{ConvertsOrHandsBack}
use Rattle.mysql_value_core.specs.DurationValue.{duration_value}
use Rattle.mysql_values.specs.declared.value.convert.intermediate.ParseIrOpt.{ParseIrOpt}
use Rattle.mysql_values.specs.declared.value.convert.intermediate.ParseIrOpt.TheVariants.{Ready, Parsed}
use Rattle.mysql_sql_text.specs.TimeText.{IsTimeText}
use Rattle.mysql_sql_text.specs.ReadTimeText.{time_of_text}
use Rattle.mysql_sql_text.proofs.TimeTextLemmas.{time_texts_are_read}
use Rattle.mysql_values.specs.Intermediate.{committed}
use Rattle.mysql_values.specs.Rollback.{ConvertsAndRollsBack}
use Rattle.mysql_values.specs.DurationConversion.{ConvertsTimeTexts, seen_intermediate, duration_conversion, nanoseconds_of_text, nanoseconds_unless_negative}

-- the intermediate has the value beside it
abbrev Keeps : Value → ParseIrOpt ℕ → Type 0
Keeps value (Ready n) = ⊥
Keeps value (Parsed n kept) = kept ≡ value

-- each intermediate is made beside its value
Parsed-keeps : (value : Value) (o : Option ℕ) (ir : ParseIrOpt ℕ)
    → option_map (λ n. Parsed n value) o ≡ Some ir → Keeps value ir
Parsed-keeps value None ir e = absurd cc
Parsed-keeps value (Some n) ir e = subst (Keeps value) (same_Some _ _ e) refl

duration_conversion-keeps : (value : Value) (ir : ParseIrOpt ℕ)
    → duration_conversion value ≡ Some ir → Keeps value ir
duration_conversion-keeps (Time false d h m s us) ir e = subst (Keeps (Time false d h m s us)) (same_Some _ _ e) refl
duration_conversion-keeps (Bytes bytes) ir e = Parsed-keeps (Bytes bytes) (nanoseconds_of_text bytes) ir e
duration_conversion-keeps value ir e = absurd cc

-- a duration comes of a value and goes back to it
pub duration-ConvertsAndRollsBack : (value : Value) (r : Result (ParseIrOpt Duration) FromValueError)
    → ConvertsOrHandsBack (seen_intermediate as_nanos) (duration_conversion value) value r
    → ConvertsAndRollsBack (seen_intermediate as_nanos) duration_conversion duration_value value r
duration-ConvertsAndRollsBack value (Err e) t = record { converts = t; rolls_back = tt; null = tt; no_memory = tt }
duration-ConvertsAndRollsBack value (Ok (Ready x)) t = absurd (duration_conversion-keeps value (Ready (as_nanos x)) t)
duration-ConvertsAndRollsBack value (Ok (Parsed x kept)) t =
    let same : kept ≡ value = duration_conversion-keeps value (Parsed (as_nanos x) kept) t in
    record {
      converts = t;
      rolls_back =
          ap (λ u. option_map committed (duration_conversion u)) same
          ∙ ap (option_map committed) t;
      null = λ undone. cc;
      no_memory = λ memory. memory;
    }

-- the time text that converts to a duration, by the reading of the text
time_text-converted : (text : List ℕ) (ir : ParseIrOpt Duration) (time : Option (Bool × ℕ))
    → time_of_text text ≡ time
    → option_map (λ n. Parsed n (Bytes text)) (option_and_then nanoseconds_unless_negative time)
    ≡ Some (seen_intermediate as_nanos ir)
    → (microseconds : ℕ) × IsTimeText text false microseconds
    × (as_nanos (committed ir) ≡ microseconds * 1000)
time_text-converted text ir None is e = absurd cc
time_text-converted text ir (Some (true, us)) is e = absurd cc
time_text-converted text (Ready x) (Some (false, us)) is e = absurd cc
time_text-converted text (Parsed x kept) (Some (false, us)) is e =
    (us, (time_texts_are_read text false us).0 is, sym (ap committed (same_Some _ _ e)))

-- exactly the time texts without `-` convert
pub duration-ConvertsTimeTexts : (value : Value) (r : Result (ParseIrOpt Duration) FromValueError)
    → ConvertsOrHandsBack (seen_intermediate as_nanos) (duration_conversion value) value r
    → ConvertsTimeTexts value r
duration-ConvertsTimeTexts (Bytes text) (Ok ir) t =
    time_text-converted text ir (time_of_text text) refl t
duration-ConvertsTimeTexts (Bytes text) (Err e) t = λ us is.
    let converted = ap (λ time. option_map (λ n. Parsed n (Bytes text)) (option_and_then nanoseconds_unless_negative time))
    ((time_texts_are_read text false us).1 is) in
    let none = sym t.0 ∙ converted in
    cc
duration-ConvertsTimeTexts value r t = tt
