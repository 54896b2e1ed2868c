-- The text of a query for a purpose is the one that is computed.
use Rattle.std.specs.Prelude.{Bool, true, Result, IfOk, Ok, unwrap_or}
use Rattle.std.proofs.Common.{◌≡◌, ℕ, List, [], ◌∷◌, map, Some, refl, sym, ap, ◌∙◌}
use Rattle.mysql_values.specs.declared.value.Value.{Value}
use Rattle.mysql_values.specs.Literal.{literal_of}
use Rattle.mysql_named_params.specs.Places.{names}
use Rattle.mysql_named_params.specs.Tokens.{Token}
use Rattle.mysql_params_core.specs.Given.{Given}
use Rattle.mysql_params_core.specs.Lookup.{lookup}
use Rattle.mysql_binding.specs.LiteralForm.{Literals, written_literal}
use Rattle.mysql_binding.specs.Pieces.{pieces, joined_text}
use Rattle.mysql_steady_text.specs.Purposes.{reading_for}
use Rattle.mysql_steady_text.specs.SteadyLiteral.{steady_literal_of}
use Rattle.mysql_steady_text.specs.declared.purpose.Purpose.{Purpose}
use Rattle.mysql_steady_text.specs.declared.purpose.Scope.{Scope}
use Rattle.mysql_steady_text.specs.declared.purpose.Scope.TheVariants.{OneMode, EitherMode, AnyConnection}
use Rattle.mysql_bind_call.specs.BoundTexts.{IsValuesText}
use Rattle.mysql_bind_call.proofs.ResultLemmas.{ok_to}
use Rattle.mysql_fixed_query.specs.Bindable.{tokens_for, tokens_in}
use Rattle.mysql_fixed_query.specs.FixedText.{scope_literal, text_for, text_with}

module _ (literal : Literals) where
  -- the literals of values, written out
  literals_are : (values : List Value) (literals : List (List ℕ)) →
      map literal values ≡ map Some literals → map (written_literal literal) values ≡ literals
  literals_are [] [] e = refl
  literals_are [] (text ∷ texts) e = cc
  literals_are (value ∷ values) [] e = cc
  literals_are (value ∷ values) (text ∷ texts) e =
      let first : literal value ≡ Some text = cc in
      let later : map literal values ≡ map Some texts = cc in
      ap (λ x. x ∷ map (written_literal literal) values) (ap (λ o. unwrap_or o []) first)
      ∙ ap (λ x. text ∷ x) (literals_are values texts later)

  computed : (ts : List Token) (g : Given) (values found : List Value) (literals : List (List ℕ)) (text : List ℕ) →
      lookup g (names ts) ≡ Ok values → lookup g (names ts) ≡ Ok found → map literal found ≡ map Some literals →
      joined_text (pieces ts) literals ≡ Some text → text ≡ text_with (written_literal literal) ts values
  computed ts g values found literals text looked_up also written joined =
      let twice = sym also ∙ looked_up in
      let same : found ≡ values = cc in
      let texts : map (written_literal literal) values ≡ literals =
      ap (map (written_literal literal)) (sym same) ∙ literals_are found literals written in
      sym (ap (λ o. unwrap_or o []) (ap (joined_text (pieces ts)) texts ∙ joined))

-- in each scope
text_is_computed : (scope : Scope) (ts : List Token) (g : Given) (values : List Value) (text : List ℕ) →
    lookup g (names ts) ≡ Ok values → IsValuesText scope ts g text → text ≡ text_with (scope_literal scope) ts values
text_is_computed (OneMode mode) ts g values text looked_up t =
    computed (literal_of mode) ts g values t.values t.literals text looked_up t.looked_up t.written t.text_is
text_is_computed EitherMode ts g values text looked_up t =
    computed steady_literal_of ts g values t.values t.literals text looked_up t.looked_up t.written t.text_is
text_is_computed AnyConnection ts g values text looked_up t =
    computed steady_literal_of ts g values t.values t.literals text looked_up t.looked_up t.written t.text_is

pub answer_is_computed : {A E : Type 0} (items : A → List ℕ) (r : Result A E) (purpose : Purpose)
    (query : List ℕ) (g : Given) (values : List Value) →
    lookup g (names (tokens_for purpose query)) ≡ Ok values →
    ((mode : Bool) → IfOk r (λ text. IsValuesText purpose.scope (tokens_in (reading_for purpose mode) query) g (items text))) →
    IfOk r (λ text. items text ≡ text_for purpose query values)
answer_is_computed items r purpose query g values looked_up bound =
    ok_to _ _ r (λ text t. text_is_computed purpose.scope (tokens_for purpose query) g values (items text) looked_up t) (bound true)
