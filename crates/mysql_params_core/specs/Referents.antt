-- The values to which the references of a list refer.
use Rattle.std.specs.Prelude.{List, map}
use Rattle.std.specs.Borrow.{Bor}

-- the values to which the references of a list refer, in order
abbrev pub referents : {X : Type 0} → List (Bor X) → List X
referents references = map (λ reference. reference.now) references
