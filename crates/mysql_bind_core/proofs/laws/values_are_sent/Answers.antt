use Rattle.std.proofs.Common.{◌≡◌, ℕ, true, false, List, refl, subst, true≢false}
use Rattle.mysql_named_params.specs.LoweredNames.{lower_names}
use Rattle.mysql_named_params.specs.Reading.{IsTokensIn, wide_reading}
use Rattle.mysql_named_params.specs.Tokens.{Token, OnTokens, text_of}
use Rattle.mysql_named_params.proofs.ReadingLemmas.{one_reading}
use Rattle.mysql_portable.specs.FirstUnportableInClient.{IsPortableInClient}
use Rattle.mysql_portable.specs.SteadyBytes.{IsSteady}
use Rattle.mysql_params_core.specs.Given.{Given}
use Rattle.mysql_binding.specs.Isolation.{IsBoundText}
use Rattle.mysql_binding.specs.Replaced.{with_literal_tokens}
use Rattle.mysql_binding.proofs.BoundSentLemmas.{written_in_line}
use Rattle.mysql_binding.proofs.BoundTextLemmas.{is_bound_text}
use Rattle.mysql_binding.proofs.SentTextLemmas.{except_marks}
use Rattle.mysql_steady_text.specs.SteadyLiteral.{steady_literal_of}
use Rattle.mysql_steady_text.specs.SteadyText.{IsSteadyText}
use Rattle.mysql_steady_text.proofs.SteadyClientLemmas.{bound_alone}
use Rattle.mysql_steady_text.proofs.SteadyTextLemmas.{shapes_in}
use Rattle.mysql_steady_text.proofs.SteadyLiteralLemmas.{steady_in_line}
use Rattle.mysql_steady_text.proofs.WideSteadyLemmas.{is_steady_text_in}
use Rattle.mysql_bind_core.specs.Bound.{IsTextPortableIfWanted, IsTaken}
use Rattle.mysql_bind_core.specs.FoundPairs.{IsGivenFor, IsValuesText}
use Rattle.mysql_bind_core.specs.Requests.{mode_of}
use Rattle.mysql_bind_core.specs.declared.request.Literals.{Literals}
use Rattle.mysql_bind_core.specs.declared.request.Literals.TheVariants as literals
use Rattle.mysql_bind_core.specs.declared.request.Request.{Request}
use Rattle.mysql_bind_core.proofs.EachModeLemmas.{tokens_in}
use Rattle.mysql_bind_core.proofs.LoweredTextLemmas.{low_alone, low_joined, low_replaced, low_tokens, plain_sent}
use Rattle.mysql_bind_core.proofs.laws.values_are_sent.Goals as goal

pub returns : goal.returns
returns c = sent
  where
    steady_values : (query text : List ℕ) (ts : List Token) (given : Given) → IsTokensIn (wide_reading false) query ts → IsSteadyText ts given text →
        IsPortableInClient (lower_names ts) → OnTokens false text IsPortableInClient
    steady_values query text ts given is b p = (
      with_literal_tokens ts b.literal_tokens,
      b.isolated false,
      subst IsPortableInClient (low_replaced false ts b.literals b.literal_tokens text (b.tokens_of_literals false) b.text_is)
          (c.steady_texts_are_sent.ensures.portable false (text_of (lower_names ts)) text (lower_names ts) b.literals b.literal_tokens
          (low_tokens false query ts is) p.portable.alike p.no_opener (except_marks (lower_names ts) true true p.sent) (low_alone false query ts is (bound_alone ts given text b)) (shapes_in b)
          (written_in_line steady_literal_of steady_in_line b.values b.literals b.written) (b.tokens_of_literals false)
          (low_joined ts b.literals text b.text_is)),
    )

    plain_values : (query text : List ℕ) (ts : List Token) (given : Given) → IsTokensIn (wide_reading false) query ts → IsBoundText false ts given text →
        IsPortableInClient (lower_names ts) → OnTokens false text IsPortableInClient
    plain_values query text ts given is b p = (
      with_literal_tokens ts b.literal_tokens,
      b.isolated,
      plain_sent false query text ts given is p b (c.bound_texts_are_sent.ensures.escaped ts given text b),
    )

    -- the text is steady with steady literals, and it is portable in the mode of its query
    values : (asked : Literals) (query text : List ℕ) (ts : List Token) (given : Given) → mode_of asked ≡ false → (asked ≡ literals.Steady → IsSteady query) →
        IsTokensIn (wide_reading (mode_of asked)) query ts → IsGivenFor asked ts given text → IsPortableInClient (lower_names ts) →
        (asked ≡ literals.Steady → IsSteady text) × OnTokens (mode_of asked) text IsPortableInClient
    values literals.Steady query text ts given escaped steady is g p =
        let b = is_steady_text_in (wide_reading false) query ts given text is (steady refl) g in
        (λ e. b.steady, steady_values query text ts given is b p)
    values (literals.Plain false) query text ts given escaped steady is g p =
        (λ e. absurd cc, plain_values query text ts given is (is_bound_text (wide_reading false) query ts given text is g) p)
    values (literals.Plain true) query text ts given escaped steady is g p = absurd (true≢false escaped)

    sent : (request : Request) (query text : List ℕ) → mode_of request.literals ≡ false → IsTaken request query →
        IsValuesText request query text → IsTextPortableIfWanted request text
    sent request query text escaped taken x e mode r =
        let p = (taken.portable e).0 in
        let o = x.1 in
        let portable = subst (λ us. IsPortableInClient (lower_names us)) (one_reading (wide_reading (mode_of request.literals)) query p.0 o.0 p.1 o.1) p.2 in
        let v = values request.literals query text o.0 x.0 escaped taken.steady o.1 o.2 portable in
        tokens_in request.literals mode r text v.0 IsPortableInClient v.1
