-- The statement that changes an account's balance.
use Rattle.std.specs.Prelude.{ℕ, ℤ, List, ◌++◌, codes}
use Rattle.std.specs.Fmt.{decimal, signed_decimal}

-- the statement for this change and the account of this number
abbrev pub balance_text : ℤ → ℕ → List ℕ
balance_text change id =
    codes "UPDATE account SET balance = balance + "
    ++ (signed_decimal change ++ (codes " WHERE id = " ++ (decimal id ++ codes "")))
