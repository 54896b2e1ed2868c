use Rattle.std.proofs.Common.{◌≡◌, ◌⊎◌, inl, inr, ℕ, List, Ok, Err, Result, IfErr, map, refl, sym, ◌∙◌}
use Rattle.std.specs.Borrow.{Bor}
use Rattle.mysql_values.specs.StringUnits.{with_backslashes}
use Rattle.mysql_values.specs.declared.value.ValueRef.{ValueRef}
use Rattle.mysql_params.specs.BoundPairs.{IsPairsRefusal}
use Rattle.mysql_params.specs.Made.{Made, pairs_made, seen_pair}
use Rattle.mysql_params.specs.declared.BindPairsError.{BindPairsError}
use Rattle.mysql_params.specs.declared.BindPairsError.TheVariants.{Redefined, Bind}
use Rattle.shop_example.specs.PairQuery.{IsOrdersRefusal, orders_made}
use Rattle.shop_example.proofs.pair_query.find_orders.Goals as goal

-- the refusal of pairs, by what they make
refusal : (query : List ℕ) (pairs : List (Bor (List ℕ) × ValueRef)) (made : Made) →
    pairs_made (map seen_pair pairs) ≡ made → (error : BindPairsError) →
    IsPairsRefusal with_backslashes query pairs error → IsOrdersRefusal query made error
refusal query pairs made same (Redefined index) is = (is.pair.0.now, sym same ∙ is.refused)
refusal query pairs made same (Bind error) (inl many) = inl many.1
refusal query pairs made same (Bind error) (inr of) = inr (of.0, sym same ∙ of.1, of.2)

-- of each result
refused : {A : Type 0} (result : Result A BindPairsError) (query : List ℕ) (pairs : List (Bor (List ℕ) × ValueRef)) (made : Made) →
    pairs_made (map seen_pair pairs) ≡ made →
    IfErr result (IsPairsRefusal with_backslashes query pairs) → IfErr result (IsOrdersRefusal query made)
refused (Ok text) query pairs made same is = tt
refused (Err error) query pairs made same is = refusal query pairs made same error is

pub returns-clause-refused : goal.returns-clause-refused
returns-clause-refused c =
    let customer = c.as_slice.ensures in
    let text = c.as_slice-2.ensures in
    let bytes = c.as_bytes.ensures.value in
    refused c.bind_pairs.result c.args.query.now _ (orders_made c.args.customer c.args.text.now) (cc) c.bind_pairs.ensures.refused
