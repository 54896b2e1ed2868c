-- The text of a row at the end of a script, as it is asked for.
use Rattle.std.specs.Prelude.{Bool, false, Result, Ok, Err, IfOk, OnOk, OnErr, None}
use Rattle.std.proofs.Common.{◌≡◌, ◌++◌, ℕ, List, sym, ap, ◌∙◌, subst, arith}
use Rattle.mysql_values.specs.declared.value.Value.{Value}
use Rattle.mysql_values.specs.Literal.{literal_of}
use Rattle.mysql_named_params.specs.Reading.{OnWideTokens, wide_reading}
use Rattle.mysql_named_params.specs.declared.places.Reading.{Reading}
use Rattle.mysql_params_core.specs.Given.{Given}
use Rattle.mysql_binding.specs.AppendedText.{AreFound, IsAppended}
use Rattle.mysql_binding.specs.FirstCause.{mixed_cause}
use Rattle.mysql_binding.specs.LiteralForm.{IsPlainLiteral, LiteralFacts, Literals}
use Rattle.mysql_binding.specs.WrittenText.{IsGivenText}
use Rattle.mysql_binding.proofs.CauseLemmas.{mixed_none}
use Rattle.mysql_steady_text.specs.SteadyLiteral.{steady_literal_of}
use Rattle.mysql_steady_text.specs.SteadyLiterals.{IsSteadyFor}
use Rattle.mysql_bind_core.specs.Assignments.{given_of}
use Rattle.mysql_bind_core.specs.Bound.{IsTaken}
use Rattle.mysql_bind_core.specs.FoundPairs.{IsGivenFor, IsTextAppended}
use Rattle.mysql_bind_core.specs.Requests.{mode_of}
use Rattle.mysql_bind_core.specs.declared.taken.appended.Attempt.{Attempt}
use Rattle.mysql_bind_core.specs.declared.taken.appended.Attempt.TheVariants as attempt
use Rattle.mysql_bind_core.specs.declared.request.Literals.TheVariants.{Steady, Plain}
use Rattle.mysql_bind_core.specs.declared.request.Request.{Request}

-- ---- what is told of a text that was written or not

if_done : {A E : Type 0} (r : Result A E) (P : Type 0) → OnOk r P → OnErr r ⊥ → P
if_done (Ok a) P p n = p
if_done (Err e) P p n = absurd n

pub done_bound : {A E F : Type 0} (d : Result Attempt F) (r : Result A E) (P Q : Type 0) →
    IfOk d (λ a. a ≡ attempt.Written → OnErr r ⊥) → OnOk r P → (P → Q) → IfOk d (λ a. a ≡ attempt.Written → Q)
done_bound (Ok done) r P Q h p f = λ t. f (if_done r P p (h t))
done_bound (Err e) r P Q h p f = tt

pub done_so : {F : Type 0} (d : Result Attempt F) (P Q : Type 0) → (P → Q) →
    IfOk d (λ a. a ≡ attempt.Written → P) → IfOk d (λ a. a ≡ attempt.Written → Q)
done_so (Ok done) P Q f h = λ t. f (h t)
done_so (Err e) P Q f h = tt

-- ---- the text

module _ (request : Request) (query : List ℕ) (given : Given) (text : List ℕ) where
  -- with literals of a mode
  pub plain_for : (mode : Bool) → request.literals ≡ Plain mode →
      OnWideTokens mode query (λ ts. IsGivenText (literal_of mode) (IsPlainLiteral mode) ts given text) →
      OnWideTokens (mode_of request.literals) query (λ ts. IsGivenFor request.literals ts given text)
  plain_for mode e o = subst (λ l. OnWideTokens (mode_of l) query (λ ts. IsGivenFor l ts given text)) (sym e) o

  -- with steady literals
  pub steady_for : request.literals ≡ Steady →
      OnWideTokens false query (λ ts. IsGivenText steady_literal_of IsSteadyFor ts given text) →
      OnWideTokens (mode_of request.literals) query (λ ts. IsGivenFor request.literals ts given text)
  steady_for e o = subst (λ l. OnWideTokens (mode_of l) query (λ ts. IsGivenFor l ts given text)) (sym e) o

-- a text that is appended to a query as it is surveyed is appended to the query in its mode
pub appended_as : (literal : Literals) (IsKnown : LiteralFacts) (reading : Reading) (mode : Bool) (seen query : List ℕ) (values : List Value) (before after : List ℕ) →
    reading ≡ wide_reading mode → seen ≡ query → IsAppended literal IsKnown reading seen values before after →
    IsAppended literal IsKnown (wide_reading mode) query values before after
appended_as literal IsKnown reading mode seen query values before after r q a =
    subst (λ (x : Reading). IsAppended literal IsKnown x query values before after) r
    (subst (λ (x : List ℕ). IsAppended literal IsKnown reading x values before after) q a)

module _ (request : Request) (query : List ℕ) (values : List Value) (before after : List ℕ) where
  -- after these bytes stands the text that is asked for, whatever gives these values
  abbrev pub AppendedFor : Bool → Type 0
  AppendedFor mode = (text : List ℕ) × (after ≡ before ++ text) × ((given : Given) → OnWideTokens mode query (AreFound given values) →
      OnWideTokens (mode_of request.literals) query (λ ts. IsGivenFor request.literals ts given text))

  pub plain_appended : (mode plain : Bool) → request.literals ≡ Plain plain → mode ≡ mode_of request.literals →
      IsAppended (literal_of plain) (IsPlainLiteral plain) (wide_reading mode) query values before after → AppendedFor mode
  plain_appended mode plain e m a =
      let same : mode ≡ plain = m ∙ ap mode_of e in (
        a.text,
        a.bytes,
        λ given o. plain_for request query given a.text plain e
            (subst (λ b. OnWideTokens b query (λ ts. IsGivenText (literal_of plain) (IsPlainLiteral plain) ts given a.text)) same (a.of_given given o)),
      )

  pub steady_appended : (mode : Bool) → request.literals ≡ Steady → mode ≡ mode_of request.literals →
      IsAppended steady_literal_of IsSteadyFor (wide_reading mode) query values before after → AppendedFor mode
  steady_appended mode e m a =
      let same : mode ≡ false = m ∙ ap mode_of e in (
        a.text,
        a.bytes,
        λ given o. steady_for request query given a.text e
            (subst (λ b. OnWideTokens b query (λ ts. IsGivenText steady_literal_of IsSteadyFor ts given a.text)) same (a.of_given given o)),
      )

  -- it is the text of pairs that give them
  pub pairs_appended : (pairs : List (List ℕ × Value)) (mode : Bool) →
      ((given : Given) × (given_of pairs ≡ Ok given) × OnWideTokens mode query (AreFound given values)) → AppendedFor mode →
      IsTextAppended request query pairs before after
  pairs_appended pairs mode f a = (a.0, record { given = f.0; given_is = f.1; bound = a.2 f.0 f.2 }, a.1)

-- a query that is taken has no mark
pub unmixed : (request : Request) (query : List ℕ) → IsTaken request query → (mode : Bool) → mode ≡ mode_of request.literals →
    OnWideTokens mode query (λ ts. mixed_cause ts ≡ None)
unmixed request query taken mode e =
    let o = taken.is_named in
    subst (λ m. OnWideTokens m query (λ ts. mixed_cause ts ≡ None)) (sym e) (o.0, o.1, mixed_none o.0 (λ both. absurd (omega (arith, both.1, o.2))))
