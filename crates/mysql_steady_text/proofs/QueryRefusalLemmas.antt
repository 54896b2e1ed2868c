-- The refusal of a query for its first byte, or else for its first construct.
use Rattle.std.specs.Prelude.{Bool, option_map}
use Rattle.std.specs.Option.{option_or}
use Rattle.std.proofs.Common.{◌≡◌, ◌∙◌, ℕ, true, List, Option, Some, None, ap, refl, subst, sym}
use Rattle.mysql_named_params.specs.LoweredNames.{lower_names}
use Rattle.mysql_named_params.specs.Tokens.{Token, OnTokens}
use Rattle.mysql_portable.specs.FirstUnportable.{first_unportable}
use Rattle.mysql_portable.specs.Steady.{first_unsteady}
use Rattle.mysql_portable.specs.declared.portable.Unportable.{Unportable}
use Rattle.mysql_portable.proofs.WideWalkLemmas.{grammar_lowered}
use Rattle.mysql_steady_text.specs.FirstBackslash.{first_backslash}
use Rattle.mysql_steady_text.specs.declared.purpose.QueryRefusal.{QueryRefusal}
use Rattle.mysql_steady_text.specs.declared.purpose.QueryRefusal.TheVariants as refusal
use Rattle.mysql_steady_text.proofs.BackslashLemmas.{hold_no_escapes}
use Rattle.mysql_steady_text.proofs.BothModesAnswerLemmas.{Agree}

-- the refusal for a first byte, or else for a first construct
abbrev pub first_told : (ℕ → QueryRefusal) → Option ℕ → Option Unportable → Option QueryRefusal
first_told f byte found = option_or (option_map f byte) (option_map refusal.Unportable found)

-- a query that isn't refused has neither
pub none_told : (f : ℕ → QueryRefusal) (byte : Option ℕ) (found : Option Unportable) → None ≡ first_told f byte found →
    (byte ≡ None) × (found ≡ None)
none_told f (Some at) found e = cc
none_told f None (Some found) e = cc
none_told f None None e = (refl, refl)

-- the tokens of the grammar, which have no capitals in their names, as they are judged
pub as_judged : (mode : Bool) (query : List ℕ) (P : List Token → List Token → Type 0) →
    OnTokens mode query (λ ts. P ts (lower_names ts)) → OnTokens mode query (λ ts. P ts ts)
as_judged mode query P o = (o.0, o.1, subst (P o.0) (grammar_lowered mode o.0 o.1.each) o.2)

pub judged_anywhere : (mode : Bool) (query : List ℕ) (told : Option QueryRefusal) →
    OnTokens mode query (λ ts. told ≡ first_told refusal.Unsteady (first_unsteady query) (first_unportable (lower_names ts))) →
    OnTokens mode query (λ ts. told ≡ first_told refusal.Unsteady (first_unsteady query) (first_unportable ts))
judged_anywhere mode query told o = as_judged mode query (λ ts us. told ≡ first_told refusal.Unsteady (first_unsteady query) (first_unportable us)) o

pub judged_in_both : (mode : Bool) (query : List ℕ) (told : Option QueryRefusal) →
    OnTokens mode query (λ ts. told ≡ first_told refusal.Backslash (first_backslash ts) (first_unportable (lower_names ts))) →
    OnTokens mode query (λ ts. told ≡ first_told refusal.Backslash (first_backslash ts) (first_unportable ts))
judged_in_both mode query told o = as_judged mode query (λ ts us. told ≡ first_told refusal.Backslash (first_backslash ts) (first_unportable us)) o

pub byte_of : (f : ℕ → QueryRefusal) (byte : Option ℕ) (found : Option Unportable) (r : QueryRefusal) (at : ℕ) →
    Some r ≡ first_told f byte found → byte ≡ Some at → r ≡ f at
byte_of f byte found r at t e = let same = t ∙ ap (λ b. first_told f b found) e in cc

pub construct_of : (f : ℕ → QueryRefusal) (byte : Option ℕ) (found : Option Unportable) (r : QueryRefusal) (u : Unportable) →
    Some r ≡ first_told f byte found → byte ≡ None → found ≡ Some u → r ≡ refusal.Unportable u
construct_of f byte found r u t none e =
    let same = t ∙ (ap (λ b. first_told f b found) none ∙ ap (λ x. option_map refusal.Unportable x) e) in cc

pub nothing_of : {A : Type 0} (f : ℕ → QueryRefusal) (byte : Option ℕ) (found : Option Unportable) (r : QueryRefusal) →
    Some r ≡ first_told f byte found → byte ≡ None → found ≡ None → A
nothing_of f byte found r t none e =
    let same = t ∙ (ap (λ b. first_told f b found) none ∙ ap (λ x. option_map refusal.Unportable x) e) in cc

-- ---- of a query that isn't refused in either mode

pub both_passed : (mode : Bool) (query : List ℕ) (told : Option QueryRefusal) → told ≡ None →
    OnTokens mode query (λ ts. told ≡ first_told refusal.Backslash (first_backslash ts) (first_unportable (lower_names ts))) →
    OnTokens mode query (λ ts. (first_backslash ts ≡ None) × (first_unportable ts ≡ None))
both_passed mode query told none o =
    let j = judged_in_both mode query told o in
    (j.0, j.1, none_told refusal.Backslash (first_backslash j.0) (first_unportable j.0) (sym none ∙ j.2))

pub agreed : (query : List ℕ) (told : Option QueryRefusal) → told ≡ None →
    OnTokens true query (λ ts. told ≡ first_told refusal.Backslash (first_backslash ts) (first_unportable (lower_names ts))) →
    Agree query
agreed query told none o = let p = both_passed true query told none o in (p.0, p.1, hold_no_escapes p.0 0 p.2.0)
