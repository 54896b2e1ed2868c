-- A text with steady literals is portable in either mode if it is in one, and a client reads it the same.
use Rattle.std.specs.Prelude.{Bool}
use Rattle.std.proofs.Common.{◌≡◌, ℕ, false, List, refl, subst, sym}
use Rattle.mysql_named_params.specs.Reading.{OnWideTokens}
use Rattle.mysql_named_params.specs.Tokens.{Token, IsTokens, OnTokens}
use Rattle.mysql_portable.specs.Client.{Client, HoldNoOpener, IsReadBy}
use Rattle.mysql_portable.specs.FirstUnportableInClient.{IsPortableInClient}
use Rattle.mysql_portable.specs.Portable.{AreReadAlike}
use Rattle.mysql_portable.specs.Quiet.{IsHonest}
use Rattle.mysql_portable.specs.Steady.{IsSteady}
use Rattle.mysql_portable.proofs.ClientLemmas.{reads_as_server, read_as_server}
use Rattle.mysql_portable.proofs.SteadyLemmas.{steady_other, steady_other_on}
use Rattle.mysql_bind_core.specs.Bound.{IsAssignedText, IsTextPortableIfWanted}
use Rattle.mysql_bind_core.specs.Requests.{IsReadIn, mode_of}
use Rattle.mysql_bind_core.specs.RowItems.{RowsSaid}
use Rattle.mysql_bind_core.specs.RowsBound.{IsRowsText}
use Rattle.mysql_bind_core.specs.TakenQuery.{RequestedQuery}
use Rattle.mysql_bind_core.specs.declared.assignment.Assignment.{Assignment}
use Rattle.mysql_bind_core.specs.declared.request.Literals.{Literals}
use Rattle.mysql_bind_core.specs.declared.request.Literals.TheVariants as literals
use Rattle.mysql_bind_core.specs.declared.request.Portability.TheVariants as portability
use Rattle.mysql_bind_core.specs.declared.request.Request.{Request}

-- ---- steady texts

pub assigned_steady : (request : Request) (query : List ℕ) (assignments : List Assignment) (text : List ℕ) → request.literals ≡ literals.Steady →
    IsAssignedText request query assignments text → IsSteady text
assigned_steady request query assignments text e x = x.bound.2.steady e

-- ---- in each mode

pub own_mode : (asked : Literals) → IsReadIn asked (mode_of asked)
own_mode literals.Steady = tt
own_mode (literals.Plain mode) = refl

module _ (asked : Literals) (mode : Bool) (r : IsReadIn asked mode) where
  pub tokens_in : (text : List ℕ) → (asked ≡ literals.Steady → IsSteady text) → (P : List Token → Type 0) →
      OnTokens (mode_of asked) text P → OnTokens mode text P
  tokens_in text steady P o = go asked r steady o
    where
      go : (asked : Literals) → IsReadIn asked mode → (asked ≡ literals.Steady → IsSteady text) → OnTokens (mode_of asked) text P → OnTokens mode text P
      go literals.Steady r steady o = (o.0, steady_other false mode text o.0 (steady refl) o.1, o.2)
      go (literals.Plain own) r steady o = subst (λ m. OnTokens m text P) r o

  pub wide_in : (query : List ℕ) → (asked ≡ literals.Steady → IsSteady query) → (P : List Token → Type 0) →
      OnWideTokens (mode_of asked) query P → OnWideTokens mode query P
  wide_in query steady P o = go asked r steady o
    where
      go : (asked : Literals) → IsReadIn asked mode → (asked ≡ literals.Steady → IsSteady query) → OnWideTokens (mode_of asked) query P → OnWideTokens mode query P
      go literals.Steady r steady o = (o.0, (o.1.0, steady_other false mode query o.1.0 (steady refl) o.1.1, o.1.2), o.2)
      go (literals.Plain own) r steady o = subst (λ m. OnWideTokens m query P) r o

  -- what a client reads
  module _ (client : Client) (honest : IsHonest client.reader) (text : List ℕ) (steady : asked ≡ literals.Steady → IsSteady text) (ts : List Token) (is : IsTokens (mode_of asked) text ts) (p : AreReadAlike ts) (o : HoldNoOpener ts) (us : List Token) where
    pub read_in_own : IsReadBy client mode text us → IsReadBy client (mode_of asked) text us
    read_in_own u = go asked r steady is u
      where
        go : (asked : Literals) → IsReadIn asked mode → (asked ≡ literals.Steady → IsSteady text) → IsTokens (mode_of asked) text ts →
            IsReadBy client mode text us → IsReadBy client (mode_of asked) text us
        go literals.Steady r steady is u =
            reads_as_server client false text ts us honest is p o
            (steady_other_on client.reader mode false text us (steady refl)
            (read_as_server client mode text ts us honest (steady_other false mode text ts (steady refl) is) p o u))
        go (literals.Plain own) r steady is u = subst (λ m. IsReadBy client m text us) (sym r) u

    pub read_in_other : IsReadBy client (mode_of asked) text us → IsReadBy client mode text us
    read_in_other u = go asked r steady is u
      where
        go : (asked : Literals) → IsReadIn asked mode → (asked ≡ literals.Steady → IsSteady text) → IsTokens (mode_of asked) text ts →
            IsReadBy client (mode_of asked) text us → IsReadBy client mode text us
        go literals.Steady r steady is u =
            reads_as_server client mode text ts us honest (steady_other false mode text ts (steady refl) is) p o
            (steady_other_on client.reader false mode text us (steady refl) (read_as_server client false text ts us honest is p o u))
        go (literals.Plain own) r steady is u = subst (λ m. IsReadBy client m text us) r u

-- ---- portable texts

-- unless all queries are taken, the text is portable in the mode in which the query is read
abbrev pub IsPortableInOwn : Request → List ℕ → Type 0
IsPortableInOwn request text = request.portability ≡ portability.Portable → OnTokens (mode_of request.literals) text IsPortableInClient

pub portable_in_each : (request : Request) (query : List ℕ) (assignments : List Assignment) (text : List ℕ) → IsAssignedText request query assignments text →
    IsPortableInOwn request text → IsTextPortableIfWanted request text
portable_in_each request query assignments text a p e mode r =
    tokens_in request.literals mode r text (λ s. assigned_steady request query assignments text s a) IsPortableInClient (p e)

pub rows_portable_in_each : (query : RequestedQuery) (fixed : List Assignment) (rows : RowsSaid) (text : List ℕ) → IsRowsText query fixed rows text →
    IsPortableInOwn query.request text → IsTextPortableIfWanted query.request text
rows_portable_in_each query fixed rows text x p e mode r =
    tokens_in query.request.literals mode r text
    (λ s. x.bound.2.steady s) IsPortableInClient (p e)
