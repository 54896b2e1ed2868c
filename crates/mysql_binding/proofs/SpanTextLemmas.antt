-- A text of a fixed length that is filled by the spans of its places, as far as an index.
use Rattle.std.specs.List.{sum_by}
use Rattle.std.proofs.Common.{◌≡◌, ℕ, ◌+◌, ◌<◌, ◌≤◌, false, List, [], ◌∷◌, ◌++◌, length, map, take, take_all, drop, get_or, Some, None, sym, ap, ◌∙◌, subst, arith, append_assoc, append-nil}
use Rattle.std.proofs.lemmas.List.{drop_all, take_more, length-take-le}
use Rattle.mysql_values.specs.declared.value.Value.{Value}
use Rattle.mysql_values.specs.Literal.{is_float}
use Rattle.mysql_binding.specs.FirstCause.{first_float_from}
use Rattle.mysql_binding.specs.LiteralForm.{Literals, LiteralFacts, AreWrittenAs, literal_len, written_literal}
use Rattle.mysql_binding.specs.PlaceSpans.{FitIn, IsTextAt, after_span, outside_len, text_at}
use Rattle.mysql_binding.specs.declared.binding.spans.PlaceSpan.{PlaceSpan}
use Rattle.mysql_binding.proofs.SpanLemmas.{spans_from}
use Rattle.mysql_binding.proofs.TextLengthLemmas.{lens_left, len_at}
use Rattle.mysql_binding.proofs.ValueLiteralLemmas.{AreWrittenAs-push, no_float}

pub record SpansFilled (literal : Literals) (IsKnown : LiteralFacts) (query rest : List ℕ) (spans : List PlaceSpan) (values : List Value) (i : ℕ) (text : List ℕ) (at : ℕ) : Type 0 where
  pub each : length values ≡ length spans
  pub fit : FitIn (drop i spans) rest
  pub literals : List (List ℕ)
  pub written : AreWrittenAs literal IsKnown (take i values) literals
  pub no_float_left : first_float_from i (drop i values) ≡ None
  pub text_is : (more : List (List ℕ)) → take at text ++ text_at (drop i spans) rest more ≡ text_at spans query (literals ++ more)
  pub len_is : at + (outside_len (drop i spans) rest + sum_by (literal_len literal) (drop i values)) ≡ length text

module _ (literal : Literals) (IsKnown : LiteralFacts) (query rest : List ℕ) (spans : List PlaceSpan) (values : List Value) (i : ℕ) (text : List ℕ) (at : ℕ) (s : SpansFilled literal IsKnown query rest spans values i text at) where
  module _ (below : i < length values) (v : Value) (v_is : v ≡ get_or values i v) where
    pub value_no_float : is_float v ≡ false
    value_no_float = (no_float values i v below v_is s.no_float_left).0

    pub value_len : (lens : List ℕ) → lens ≡ map (literal_len literal) values → get_or lens i 0 ≡ literal_len literal v
    value_len lens lens_are = len_at literal values lens i 0 v below v_is lens_are

    module _ (d : PlaceSpan) where
      abbrev span : PlaceSpan
      span = get_or spans i d

      here : drop i spans ≡ span ∷ drop (i + 1) spans
      here = spans_from spans i d (omega (arith, below, s.each))

      fits_here : FitIn (span ∷ drop (i + 1) spans) rest
      fits_here = subst (λ x. FitIn x rest) here s.fit

      outside_here : outside_len (drop i spans) rest ≡ span.before + outside_len (drop (i + 1) spans) (after_span span rest)
      outside_here = ap (λ x. outside_len x rest) here

      lens_here : sum_by (literal_len literal) (drop i values) ≡ literal_len literal v + sum_by (literal_len literal) (drop (i + 1) values)
      lens_here = lens_left literal values i v below v_is

      module _ (piece : List ℕ) (piece_is : piece ≡ take span.before rest) where
        piece_len : length piece ≡ span.before
        piece_len = ap length piece_is ∙ length-take-le span.before rest (omega (arith, fits_here.1))

        module _ (text' : List ℕ) (at' : ℕ) (at'_is : at' ≡ at + length piece) (same : length text' ≡ length text) (put : take at' text' ≡ take at text ++ piece) where
          pub span_literal_fits : (len : ℕ) → len ≡ literal_len literal v → at' + len ≤ length text'
          span_literal_fits len len_is = omega (arith, s.len_is, outside_here, lens_here, piece_len, at'_is, same, len_is)

          pub spans_filled_more : (after text'' : List ℕ) (len at'' : ℕ) → after ≡ after_span span rest →
              len ≡ literal_len literal v → at'' ≡ at' + len → length text'' ≡ length text' →
              literal v ≡ Some (written_literal literal v) → IsKnown v (written_literal literal v) →
              take at'' text'' ≡ take at' text' ++ written_literal literal v →
              SpansFilled literal IsKnown query after spans values (i + 1) text'' at''
          spans_filled_more after text'' len at'' after_is len_is at''_is same' literal_is known written = record {
            each = s.each;
            fit = subst (FitIn (drop (i + 1) spans)) (sym after_is) fits_here.2;
            literals = s.literals ++ sql ∷ [];
            written = subst (λ x. AreWrittenAs literal IsKnown x (s.literals ++ sql ∷ [])) (sym taken) (AreWrittenAs-push literal IsKnown (take i values) s.literals v sql s.written literal_is known);
            no_float_left = (no_float values i v below v_is s.no_float_left).1;
            text_is = λ more.
                ap (λ x. x ++ text_at (drop (i + 1) spans) after more) (written ∙ ap (λ x. x ++ sql) put)
                ∙ (append_assoc (take at text ++ piece) sql _
                ∙ (append_assoc (take at text) piece _
                ∙ (ap (λ x. take at text ++ (x ++ (sql ++ text_at (drop (i + 1) spans) after more))) piece_is
                ∙ (ap (λ x. take at text ++ (take span.before rest ++ (sql ++ text_at (drop (i + 1) spans) x more))) after_is
                ∙ (ap (λ x. take at text ++ text_at x rest (sql ∷ more)) (sym here)
                ∙ (s.text_is (sql ∷ more) ∙ ap (text_at spans query) (sym (append_assoc s.literals (sql ∷ []) more))))))));
            len_is = omega (arith, s.len_is, outside_here, lens_here, piece_len, at'_is, same, len_is, at''_is, same', ap (outside_len (drop (i + 1) spans)) after_is);
          }
            where
              sql : List ℕ
              sql = written_literal literal v

              taken : take (i + 1) values ≡ take i values ++ v ∷ []
              taken = take_more values i v below ∙ ap (λ x. take i values ++ x ∷ []) (sym v_is)

  module _ (done : length values ≤ i) where
    none_left : drop i spans ≡ []
    none_left = drop_all i spans (omega (arith, done, s.each))

    no_lens : sum_by (literal_len literal) (drop i values) ≡ 0
    no_lens = ap (sum_by (literal_len literal)) (drop_all i values done)

    -- once all values are written, the rest has exactly its room
    spans_last_fits : at + length rest ≡ length text
    spans_last_fits = omega (arith, s.len_is, no_lens, ap (λ x. outside_len x rest) none_left)

    pub spans_filled_all : (text' : List ℕ) (at' : ℕ) → at' ≡ at + length rest → length text' ≡ length text →
        take at' text' ≡ take at text ++ rest → IsTextAt literal IsKnown spans query values text'
    spans_filled_all text' at' at'_is same put = (
      s.literals,
      subst (λ x. AreWrittenAs literal IsKnown x s.literals) (take_all i values done) s.written,
      sym (take_all at' text' (omega (arith, spans_last_fits, at'_is, same)))
          ∙ (put ∙ (ap (λ x. take at text ++ text_at x rest []) (sym none_left) ∙ (s.text_is [] ∙ ap (text_at spans query) (append-nil s.literals)))),
    )
