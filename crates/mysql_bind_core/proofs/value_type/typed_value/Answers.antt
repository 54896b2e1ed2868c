use Rattle.std.specs.Prelude.{Result, Ok, Err, OnErr, Option, Some, None, false, option_map, true, unsigned_abs}
use Rattle.std.specs.Option.{option_or}
use Rattle.std.proofs.Common.{ℕ, List}
use Rattle.mysql_values.specs.declared.value.Value.{Value}
use Rattle.mysql_values.specs.declared.value.Value.TheVariants as value
use Rattle.mysql_values.specs.Intermediate.{committed}
use Rattle.mysql_values.specs.Value.{IsBytes}
use Rattle.mysql_values.specs.WholeNumber.{whole_conversion}
use Rattle.mysql_bind_core.specs.ValueTypes.{IsSomeBytes, int_value, number_value, uint_value}
use Rattle.mysql_bind_core.proofs.value_type.typed_value.Goals as goal

-- memory isn't refused for what has no bytes
never : {A E : Type 0} (r : Result A E) (found : Option Value) (Q : Type 0) → (IsSomeBytes found → ⊥) → OnErr r (IsSomeBytes found) → OnErr r Q
never (Ok a) found Q none p = tt
never (Err e) found Q none p = absurd (none p)

no_bytes_of : {I : Type 0} (f : I → Value) → ((i : I) → IsBytes (f i) → ⊥) → (o : Option I) → IsSomeBytes (option_map f o) → ⊥
no_bytes_of f none None b = b
no_bytes_of f none (Some i) b = none i b

no_int : (bytes : List ℕ) → IsSomeBytes (int_value bytes) → ⊥
no_int bytes b =
    no_bytes_of (λ ir. value.Int (committed ir)) (λ i h. h) (whole_conversion true 64 (λ number. number) (value.Bytes bytes)) b

no_uint : (bytes : List ℕ) → IsSomeBytes (uint_value bytes) → ⊥
no_uint bytes b =
    no_bytes_of (λ ir. value.UInt (committed ir)) (λ i h. h) (whole_conversion false 64 unsigned_abs (value.Bytes bytes)) b

no_bytes_in : (a b : Option Value) → (IsSomeBytes a → ⊥) → (IsSomeBytes b → ⊥) → IsSomeBytes (option_or a b) → ⊥
no_bytes_in None b p q h = q h
no_bytes_in (Some v) b p q h = p h

no_number : (bytes : List ℕ) → IsSomeBytes (number_value bytes) → ⊥
no_number bytes b = no_bytes_in (int_value bytes) (uint_value bytes) (no_int bytes) (no_uint bytes) b

pub returns-in-Int-clause-memory : goal.returns-in-Int-clause-memory
returns-in-Int-clause-memory c =
    never c.copied-in-Int.result (int_value c.args.bytes.now) _ (no_int c.args.bytes.now) (rw c.lent_int.ensures at c.copied-in-Int.ensures.memory)

pub returns-in-Uint-clause-memory : goal.returns-in-Uint-clause-memory
returns-in-Uint-clause-memory c =
    never c.copied-in-Uint.result (uint_value c.args.bytes.now) _ (no_uint c.args.bytes.now) (rw c.lent_uint.ensures at c.copied-in-Uint.ensures.memory)

pub returns-in-Number-clause-memory : goal.returns-in-Number-clause-memory
returns-in-Number-clause-memory c =
    never c.copied-in-Number.result (number_value c.args.bytes.now) _ (no_number c.args.bytes.now) (rw c.lent_number.ensures at c.copied-in-Number.ensures.memory)
