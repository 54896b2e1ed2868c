-- What is known of a query that is taken, as contracts see it.
use Rattle.std.proofs.Common.{◌≡◌, ℕ, Bool, List, sym, subst}
use Rattle.mysql_values.specs.Literal.{literal_of}
use Rattle.mysql_named_params.specs.Reading.{OnTokensIn, OnWideTokens, wide_reading}
use Rattle.mysql_named_params.specs.Tokens.{Token}
use Rattle.mysql_named_params.specs.declared.places.Reading.{Reading}
use Rattle.mysql_params_core.specs.Given.{Given}
use Rattle.mysql_binding.specs.LiteralForm.{IsPlainLiteral}
use Rattle.mysql_binding.specs.ParsedQuery.{QueryInMode}
use Rattle.mysql_binding.specs.SurveyedQuery.{OnSurveyed}
use Rattle.mysql_binding.specs.WrittenText.{IsGivenText}
use Rattle.mysql_binding.specs.declared.binding.survey.SurveyedQuery.{SurveyedQuery}
use Rattle.mysql_steady_text.specs.SteadyLiteral.{steady_literal_of}
use Rattle.mysql_steady_text.specs.SteadyLiterals.{IsSteadyFor}
use Rattle.mysql_bind_core.specs.Bound.{IsTaken}
use Rattle.mysql_bind_core.specs.FoundPairs.{IsGivenFor}
use Rattle.mysql_bind_core.specs.Requests.{mode_of}
use Rattle.mysql_bind_core.specs.TakenQuery.{RequestedQuery, IsTakenFor}
use Rattle.mysql_bind_core.specs.declared.request.Literals.TheVariants.{Steady, Plain}
use Rattle.mysql_bind_core.specs.declared.request.Request.{Request}
use Rattle.mysql_bind_core.proofs.AppendedRowLemmas.{plain_for, steady_for}

module _ (request : Request) (parsed : QueryInMode) (seen : RequestedQuery) (i : IsTakenFor request parsed) (v : record { query = parsed.query; request = request } ≡ seen) where
  pub taken_seen : IsTaken seen.request seen.query
  taken_seen = subst (λ (w : RequestedQuery). IsTaken w.request w.query) v i.taken

  -- what holds of the tokens of the query holds of those that are parsed
  pub on_parsed : (P : List Token → Type 0) → OnWideTokens (mode_of seen.request.literals) seen.query P → OnWideTokens parsed.mode parsed.query P
  on_parsed P o =
      subst (λ m. OnWideTokens m parsed.query P) (sym i.mode)
      (subst (λ (w : RequestedQuery). OnWideTokens (mode_of w.request.literals) w.query P) (sym v) o)

  pub text_seen : (given : Given) (text : List ℕ) →
      OnWideTokens (mode_of request.literals) parsed.query (λ ts. IsGivenFor request.literals ts given text) →
      OnWideTokens (mode_of seen.request.literals) seen.query (λ ts. IsGivenFor seen.request.literals ts given text)
  text_seen given text o =
      subst (λ (w : RequestedQuery). OnWideTokens (mode_of w.request.literals) w.query (λ ts. IsGivenFor w.request.literals ts given text)) v o

  -- ---- the text that is bound to a survey of the query

  module _ (surveyed : SurveyedQuery) (q : surveyed.query.now ≡ parsed.query) (m : surveyed.reading ≡ wide_reading parsed.mode) (given : Given) where
    -- what holds of the tokens of the query as it is surveyed
    from_survey : (P : List Token → Type 0) → OnSurveyed surveyed P → OnWideTokens (mode_of request.literals) parsed.query P
    from_survey P o =
        subst (λ b. OnWideTokens b parsed.query P) i.mode
        (subst (λ (r : Reading). OnTokensIn r parsed.query P) m (subst (λ x. OnTokensIn surveyed.reading x P) q o))

    pub to_survey : (P : List Token → Type 0) → OnWideTokens parsed.mode parsed.query P → OnSurveyed surveyed P
    to_survey P o =
        subst (λ x. OnTokensIn surveyed.reading x P) (sym q)
        (subst (λ (r : Reading). OnTokensIn r parsed.query P) (sym m) o)

    pub plain_text : (mode : Bool) (text : List ℕ) → request.literals ≡ Plain mode →
        OnSurveyed surveyed (λ ts. IsGivenText (literal_of mode) (IsPlainLiteral mode) ts given text) →
        OnWideTokens (mode_of seen.request.literals) seen.query (λ ts. IsGivenFor seen.request.literals ts given text)
    plain_text mode text e o =
        let P : List Token → Type 0 = λ ts. IsGivenText (literal_of mode) (IsPlainLiteral mode) ts given text in
        text_seen given text (plain_for request parsed.query given text mode e (subst (λ l. OnWideTokens (mode_of l) parsed.query P) e (from_survey P o)))

    pub steady_text : (text : List ℕ) → request.literals ≡ Steady →
        OnSurveyed surveyed (λ ts. IsGivenText steady_literal_of IsSteadyFor ts given text) →
        OnWideTokens (mode_of seen.request.literals) seen.query (λ ts. IsGivenFor seen.request.literals ts given text)
    steady_text text e o =
        let P : List Token → Type 0 = λ ts. IsGivenText steady_literal_of IsSteadyFor ts given text in
        text_seen given text (steady_for request parsed.query given text e (subst (λ l. OnWideTokens (mode_of l) parsed.query P) e (from_survey P o)))
