use Rattle.std.proofs.Common.{◌≡◌, ◌∙◌, ◌&&◌, ap, false, refl, sym}
use Rattle.std.proofs.lemmas.Bool.{and_right}
use Rattle.mysql_named_params.specs.WideNames.{is_wide_start}
use Rattle.mysql_portable.specs.ByStart.{is_dash_before_place_by}
use Rattle.mysql_portable.proofs.WideClientLemmas.{nothing_in_quotes_by}
use Rattle.mysql_portable.proofs.wide.found_in_front_wide.Goals as goal
use Rattle.mysql_portable.proofs.wide.found_in_front_wide.Goals.{else-is_dash_before_place-via-then-is_dash_before_place+else-statement, else-is_dash_before_place-via-else-is_dash_before_place}

pub returns-then-holds_nothing_in_quotes : goal.returns-then-holds_nothing_in_quotes
returns-then-holds_nothing_in_quotes c =
    let dash : (is_dash_before_place_by is_wide_start c.args.text.now && c.args.statement) ≡ false = elim c.else-is_dash_before_place.branch [
      | else-is_dash_before_place-via-then-is_dash_before_place+else-statement w ↦
          ap (λ s. is_dash_before_place_by is_wide_start c.args.text.now && s) w.if-statement.false ∙ and_right (is_dash_before_place_by is_wide_start c.args.text.now) false refl
      | else-is_dash_before_place-via-else-is_dash_before_place w ↦
          ap (λ d. d && c.args.statement) (sym c.is_dash_before_place.ensures ∙ w.if-is_dash_before_place.false)
    ] in
    nothing_in_quotes_by _ _ _ _ c.requires.in_range (sym c.in_default.ensures) dash (c.holds_nothing_in_quotes.ensures c.if-holds_nothing_in_quotes.true)
