-- The texts of the calls that bind fragments for any server, before a server reads them. This file
-- serves private functions.
use Rattle.std.specs.Prelude.{ℕ, Bool, List}
use Rattle.mysql_named_params.specs.Reading.{OnTokensIn, OnWideTokens, reading_with}
use Rattle.mysql_binding.specs.LiteralForm.{LiteralFacts, Literals}
use Rattle.mysql_steady_text.specs.GuardedLiteral.{guarded_literal_of}
use Rattle.mysql_steady_text.specs.GuardedLiterals.{IsGuardedFor}
use Rattle.mysql_steady_text.specs.SteadyLiteral.{steady_literal_of}
use Rattle.mysql_steady_text.specs.SteadyLiterals.{IsSteadyFor}
use Rattle.mysql_fragments.specs.GivenFragments.{GivenFragments}
use Rattle.mysql_fragments.specs.GuardedFragments.{IsGuardedFragments}
use Rattle.mysql_fragments.specs.SteadyFragments.{IsSteadyFragments}
use Rattle.mysql_flat_params.specs.declared.fragments_anywhere_room.AnywhereCall.{AnywhereCall}
use Rattle.mysql_flat_params.specs.declared.fragments_anywhere_room.AnywhereCall.TheVariants.{Steady, Guarded}

-- the literals that a call writes
abbrev pub literal_in : AnywhereCall → Literals
literal_in (Steady wide) = steady_literal_of
literal_in (Guarded mode) = guarded_literal_of mode

-- the facts about them
abbrev pub IsKnownIn : AnywhereCall → LiteralFacts
IsKnownIn (Steady wide) = IsSteadyFor
IsKnownIn (Guarded mode) = IsGuardedFor mode

-- this is the query bound to the fragments that are given to it, in either mode
abbrev pub IsBoundIn : AnywhereCall → (query : List ℕ) → GivenFragments → (text : List ℕ) → Type 0
IsBoundIn (Steady wide) query given text = (mode : Bool) →
    OnTokensIn (reading_with wide mode) query (λ ts. IsSteadyFragments ts given text)
IsBoundIn (Guarded mode) query given text = (read_mode : Bool) →
    OnWideTokens read_mode query (λ ts. IsGuardedFragments mode ts given text)
