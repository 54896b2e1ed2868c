-- The promises about a text with fragments and guarded literals, by wide names, for any server, by
-- the query with its names in lower case.
use Rattle.std.specs.Prelude.{Bool, Result, Ok, Err, IfOk}
use Rattle.std.specs.List.{list_all}
use Rattle.std.proofs.Common.{◌≡◌, ◌∙◌, ℕ, true, false, List, [], Some, None, map, ap, sym, subst}
use Rattle.mysql_named_params.specs.LoweredNames.{lower_names}
use Rattle.mysql_named_params.specs.Reading.{IsTokensIn, OnWideTokens, OnTokensIn, wide_reading}
use Rattle.mysql_named_params.specs.Tokens.{Token, IsTokens, text_of}
use Rattle.mysql_named_params.specs.Places.{names}
use Rattle.mysql_named_params.proofs.LoweredLemmas.{lowered_tokens}
use Rattle.mysql_named_params.proofs.ReadingLemmas.{one_reading, reading_text}
use Rattle.mysql_named_params.proofs.ReparsedLemmas.{names_in_reading}
use Rattle.mysql_portable.specs.CharacterSet.{seen}
use Rattle.mysql_portable.specs.Portable.{IsPortable, AreReadAlikeBefore}
use Rattle.mysql_portable.specs.Server.{IsReadOn}
use Rattle.mysql_portable.specs.Steady.{is_steady, IsSteady}
use Rattle.mysql_portable.proofs.PlaceTextLemmas.{placeless_join_no_number}
use Rattle.mysql_portable.proofs.SteadyLemmas.{steady_other, steady_other_on, steady_seen}
use Rattle.mysql_params_core.specs.Given.{positional}
use Rattle.mysql_binding.specs.Pieces.{pieces, joined_text}
use Rattle.mysql_binding.specs.Replaced.{with_literal_tokens}
use Rattle.mysql_binding.specs.StandsAlone.{first_not_alone}
use Rattle.mysql_binding.proofs.BoundText.{bound}
use Rattle.mysql_binding.proofs.CauseLemmas.{on_both}
use Rattle.mysql_binding.proofs.PieceLemmas.{joined_text_is}
use Rattle.mysql_steady_text.specs.GuardedLiteral.{guarded_literal_of}
use Rattle.mysql_steady_text.specs.GuardedLiterals.{IsGuardedFor}
use Rattle.mysql_steady_text.proofs.GuardedSpliceLemmas.{guarded_on, guarded_places, guarded_portable, guarded_read}
use Rattle.mysql_steady_text.proofs.GuardedTextLemmas.{alone_in, is_guarded_text}
use Rattle.mysql_steady_text.proofs.WideSteadyLemmas.{first_not_alone-lowered, lowered_steady, pieces-lowered, wide_nothing, wide_other, with_literal_tokens-lowered}
use Rattle.mysql_fragments.specs.FilledText.{ArePlaced, IsFilledQuery}
use Rattle.mysql_fragments.specs.FragmentText.{all_values, fragment_text, mark_number}
use Rattle.mysql_fragments.specs.GivenFragments.{GivenFragments, fragments_for}
use Rattle.mysql_fragments.specs.GuardedFragments.{IsGuardedFragments, IsGuardedOnServers}
use Rattle.mysql_fragments.specs.SteadyFragments.{first_unsteady_from}
use Rattle.mysql_fragments.specs.declared.fragment.Fragment.{Fragment}
use Rattle.mysql_fragments.proofs.ExpandedLemmas.{expanded_alone, expanded_shapes}
use Rattle.mysql_fragments.proofs.SplicedFragmentLemmas.{as_many, fragments_on, fragments_portable}
use Rattle.mysql_fragments.proofs.SteadyFragmentLemmas.{bound_steady, texts_steady}

-- ---- the text

pub guarded_fragments_on : (written : Bool) (query : List ℕ) (given : GivenFragments) (fragments : List Fragment) → IsSteady query →
    OnTokensIn (wide_reading false) query (λ ts. ArePlaced true ts given fragments) → (text : List ℕ) → None ≡ first_unsteady_from 0 fragments →
    OnTokensIn (wide_reading false) query (λ ts. IsFilledQuery (guarded_literal_of written) (IsGuardedFor written) false ts given text) →
    (mode : Bool) → OnWideTokens mode query (λ ts. IsGuardedFragments written ts given text)
guarded_fragments_on written query given fragments s p text none o mode =
    let ts : List Token = o.0 in
    let f = o.2 in
    let x = f.expanded in
    let us : List Token = with_literal_tokens ts x.lists in
    let texts : List (List ℕ) = map fragment_text x.fragments in
    let looked : fragments_for given (names ts) ≡ Ok fragments = subst (λ us. fragments_for given (names us) ≡ Ok fragments) (one_reading (wide_reading false) query p.0 ts p.1 o.1) p.2.given_to_places in
    let both : Ok x.fragments ≡ Ok fragments = sym x.given_to_places ∙ looked in
    let same : x.fragments ≡ fragments = cc in
    let none_unsteady : first_unsteady_from 0 x.fragments ≡ None = ap (first_unsteady_from 0) same ∙ sym none in
    let own : list_all is_steady (text_of ts) ≡ true = subst (λ (z : List ℕ). list_all is_steady z ≡ true) (sym (reading_text (wide_reading false) query ts o.1)) s in
    let steady : list_all is_steady (bound ts texts) ≡ true = bound_steady ts texts own (texts_steady 0 x.fragments none_unsteady) in
    let expanded_steady : IsSteady f.query = subst (λ z. list_all is_steady z ≡ true) (sym (joined_text_is ts texts f.query x.text_is)) steady in (
      ts,
      wide_other false mode query ts s o.1,
      record {
        query = f.query;
        expanded = x;
        steady_fragments = none_unsteady;
        steady = expanded_steady;
        isolated = λ read_mode. steady_other false read_mode f.query us expanded_steady x.isolated;
        bound =
            is_guarded_text written f.query us (positional (all_values x.fragments)) text
            (λ read_mode. steady_other false read_mode f.query us expanded_steady x.isolated) expanded_steady f.filled;
      },
    )

-- ---- on any server

is_guarded_on_servers : (written : Bool) (query : List ℕ) (ts : List Token) (given : GivenFragments) (text : List ℕ) →
    IsTokensIn (wide_reading false) query ts → IsSteady query → IsPortable (lower_names ts) → IsGuardedFragments written ts given text →
    IsGuardedOnServers written ts given text
is_guarded_on_servers written query ts given text is steady p f =
    let x = f.expanded in
    let b = f.bound in
    let us : List Token = with_literal_tokens ts x.lists in
    let lows : List Token = lower_names ts in
    let low : List ℕ = text_of lows in
    let counts : List ℕ = map mark_number x.fragments in
    let texts : List (List ℕ) = map fragment_text x.fragments in
    let own : list_all is_steady (text_of ts) ≡ true = subst (λ (z : List ℕ). list_all is_steady z ≡ true) (sym (reading_text (wide_reading false) query ts is)) steady in
    let low_steady : IsSteady low = lowered_steady ts own in
    let tokens : IsTokens false low lows = subst (λ (vs : List Token). IsTokens false (text_of (lower_names vs)) (lower_names vs)) (sym is.2) (lowered_tokens false query is.0 is.1) in
    let whole = expanded_alone true false ts given f.query x in
    let alone : first_not_alone lows ≡ None = first_not_alone-lowered ts 0 [] [] (names_in_reading (wide_reading false) query ts is) (λ h. h) whole in
    let joined : joined_text (pieces lows) texts ≡ Some f.query = ap (λ ps. joined_text ps texts) (pieces-lowered [] ts) ∙ x.text_is in
    let same : with_literal_tokens lows x.lists ≡ us = with_literal_tokens-lowered ts x.lists (as_many false f.query ts counts texts x.lists whole (expanded_shapes x) x.tokens_of_fragments x.text_is) in
    let n = alone_in written us (positional (all_values x.fragments)) text b in
    let alike : AreReadAlikeBefore [] us = subst (AreReadAlikeBefore []) same (fragments_portable false f.query lows counts texts x.lists alone (expanded_shapes x) x.tokens_of_fragments joined low tokens p.alike) in
    record {
      guarded_text = f;
      portable = p;
      portable_text = record {
        alike = guarded_portable true text us b.literals b.literal_tokens n b.shapes (b.tokens_of_literals true) b.text_is f.query (f.isolated true) alike;
        apart = placeless_join_no_number true _ (b.isolated true).each (guarded_places true text us b.literals b.literal_tokens n b.shapes (b.tokens_of_literals true) b.text_is);
      };
      read = λ server mode set client vs honest v.
          let o = b.isolated_over set client in
          guarded_read mode (seen set text) us o.in_places.shown o.shown_tokens n o.in_places.shapes (o.tokens_of_shown mode) o.in_places.text_is f.query (f.isolated mode) alike
          server vs honest v;
      tokens = λ server mode set client read honest within u.
          let o = b.isolated_over set client in
          guarded_on mode (seen set text) us o.in_places.shown o.shown_tokens n o.in_places.shapes (o.tokens_of_shown mode) o.in_places.text_is f.query (f.isolated mode) alike
          server (with_literal_tokens read x.lists) honest within (
          steady_other_on server false mode f.query (with_literal_tokens read x.lists) f.steady (
          fragments_on false f.query lows counts texts x.lists alone (expanded_shapes x) x.tokens_of_fragments joined low tokens p.alike
          server read honest within (steady_other_on server mode false low read low_steady (subst (λ z. IsReadOn server mode z read) (steady_seen set low low_steady) u))
          )
          );
    }

-- ---- as the call promises it

pub guarded_on_servers : {A E : Type 0} (items : A → List ℕ) (r : Result A E) (written : Bool) (query : List ℕ) (given : GivenFragments) → IsSteady query →
    OnWideTokens false query (λ ts. IsPortable (lower_names ts)) →
    ((mode : Bool) → OnWideTokens mode query (λ ts. IfOk r (λ text. IsGuardedFragments written ts given (items text)))) →
    (mode : Bool) → OnWideTokens mode query (λ ts. IfOk r (λ text. IsGuardedOnServers written ts given (items text)))
guarded_on_servers items (Ok text) written query given steady p b mode =
    let o = on_both (wide_reading false) query (λ ts. IsPortable (lower_names ts)) (λ ts. IsGuardedFragments written ts given (items text)) p (b false) in
    (o.0, wide_other false mode query o.0 steady o.1, is_guarded_on_servers written query o.0 given (items text) o.1 steady o.2.0 o.2.1)
guarded_on_servers items (Err e) written query given steady p b mode = wide_nothing mode query
