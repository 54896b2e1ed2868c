-- The promises of `bind_text_in_both_modes`, from those of its parts in one mode.
use Rattle.std.specs.Prelude.{Bool}
use Rattle.std.proofs.Common.{◌≡◌, ℕ, true, List, Option, None, sym, ◌∙◌}
use Rattle.mysql_named_params.specs.Tokens.{Token, OnTokens}
use Rattle.mysql_named_params.specs.Reading.{grammar_reading}
use Rattle.mysql_portable.specs.FirstUnportable.{first_unportable}
use Rattle.mysql_portable.specs.Steady.{HoldNoEscapes}
use Rattle.mysql_portable.proofs.OtherModeLemmas.{tokens_other}
use Rattle.mysql_portable.proofs.UnportableLemmas.{none_is_portable}
use Rattle.mysql_params_core.specs.Given.{Given}
use Rattle.mysql_binding.proofs.CauseLemmas.{on_both}
use Rattle.mysql_steady_text.specs.BothModesText.{IsTextInBothModes, IsPortableInBothModes}
use Rattle.mysql_steady_text.specs.FirstBackslash.{first_backslash}
use Rattle.mysql_steady_text.proofs.BackslashLemmas.{hold_no_escapes}
use Rattle.mysql_steady_text.proofs.BothModesTextLemmas.{portable_in_both}

-- the modes agree on a query
abbrev pub Agree : List ℕ → Type 0
Agree query = OnTokens true query HoldNoEscapes

pub agree : (query : List ℕ) (found : Option ℕ) → OnTokens true query (λ ts. found ≡ first_backslash ts) → found ≡ None →
    Agree query
agree query found o none = (o.0, o.1, hold_no_escapes o.0 0 (sym o.2 ∙ none))

-- a fact about the tokens of such a query in the one mode holds in each mode
pub in_each_mode : (query : List ℕ) (P : List Token → Type 0) → Agree query → OnTokens true query P → (mode : Bool) →
    OnTokens mode query P
in_each_mode query P none o mode =
    let b = on_both (grammar_reading true) query HoldNoEscapes P none o in
    (b.0, tokens_other true mode query b.0 b.2.0 b.1, b.2.1)

-- of a text that is bound
module _ (query : List ℕ) (given : Given) (text : List ℕ) (none : Agree query) (o : OnTokens true query (λ ts. IsTextInBothModes ts given text)) where
  pub portable_answer : OnTokens true query (λ ts. first_unportable ts ≡ None) → (mode : Bool) →
      OnTokens mode query (λ ts. IsPortableInBothModes ts given text)
  portable_answer p mode =
      let b = on_both (grammar_reading true) query HoldNoEscapes (λ ts. (first_unportable ts ≡ None) × IsTextInBothModes ts given text) none (on_both (grammar_reading true) query (λ ts. first_unportable ts ≡ None) (λ ts. IsTextInBothModes ts given text) p o) in (
        b.0,
        tokens_other true mode query b.0 b.2.0 b.1,
        portable_in_both query b.0 given text (λ other. tokens_other true other query b.0 b.2.0 b.1) (none_is_portable b.0 b.2.1.0) b.2.1.1,
      )
