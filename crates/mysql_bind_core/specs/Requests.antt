-- The modes of a request.
use Rattle.std.specs.Prelude.{◌≡◌, Bool, false, ⊤}
use Rattle.mysql_bind_core.specs.declared.request.Literals.{Literals}
use Rattle.mysql_bind_core.specs.declared.request.Literals.TheVariants.{Steady, Plain}

-- the mode in which the query is read; a steady query reads the same in both
abbrev pub mode_of : Literals → Bool
mode_of Steady = false
mode_of (Plain mode) = mode

-- a mode in which texts with such literals are read: either mode for steady literals, and for plain
-- literals their own
abbrev pub IsReadIn : Literals → Bool → Type 0
IsReadIn Steady mode = ⊤
IsReadIn (Plain own) mode = own ≡ mode
