-- The text that is written with steady literals in the places of a steady query is the promised
-- one.
use Rattle.std.specs.Prelude.{All, Bool, Result, Ok, Err, IfOk, IfErr}
use Rattle.std.proofs.Common.{◌≡◌, ℕ, true, false, List, [], ◌∷◌, length, Option, None, Some, arith, refl, sym, subst}
use Rattle.std.proofs.lemmas.Bool.{and_from}
use Rattle.std.proofs.lemmas.Bool.Decides.{nat_tests}
use Rattle.std.proofs.lemmas.List.Elements.{All-tail}
use Rattle.std.specs.List.{list_all}
use Rattle.mysql_named_params.specs.Tokens.{Token, IsTokens, OnTokens, bytes_of, text_of, Name, Mark}
use Rattle.mysql_named_params.specs.Places.{names, place_count}
use Rattle.mysql_named_params.specs.Reading.{IsTokensIn, grammar_reading}
use Rattle.mysql_named_params.specs.WideNames.{IsWideName, is_wide_byte, is_wide_start}
use Rattle.mysql_named_params.specs.declared.places.Reading.{Reading}
use Rattle.mysql_named_params.proofs.ReadingLemmas.{reading_text}
use Rattle.mysql_named_params.proofs.ReparsedLemmas.{names_in_reading}
use Rattle.mysql_portable.specs.Portable.{IsPortable}
use Rattle.mysql_portable.specs.Server.{IsReadOn}
use Rattle.mysql_portable.specs.Steady.{first_unsteady, is_steady, IsSteady, HoldNoEscapes}
use Rattle.mysql_portable.specs.declared.portable.Unportable.{Unportable}
use Rattle.mysql_portable.proofs.OtherModeLemmas.{all_parts}
use Rattle.mysql_portable.proofs.SteadyLemmas.{steady_other, steady_seen, steady_tokens}
use Rattle.mysql_params_core.specs.Given.{Given}
use Rattle.mysql_binding.specs.BindErrors.{IsCauseOrMemory}
use Rattle.mysql_binding.specs.FirstCause.{first_cause}
use Rattle.mysql_binding.specs.Pieces.{joined_text, pieces}
use Rattle.mysql_binding.specs.Replaced.{with_literal_tokens}
use Rattle.mysql_binding.specs.WrittenText.{IsGivenText}
use Rattle.mysql_binding.proofs.BoundText.{bound}
use Rattle.mysql_binding.proofs.CauseLemmas.{on_both, on_map}
use Rattle.mysql_binding.proofs.PieceLemmas.{joined_text_count, joined_text_is}
use Rattle.mysql_steady_text.specs.SteadyLiteral.{steady_literal_of}
use Rattle.mysql_steady_text.specs.BothModesText.{IsTextInBothModes}
use Rattle.mysql_steady_text.specs.OnServers.{IsReadAnywhere, IsReadInBothModes}
use Rattle.mysql_steady_text.specs.SteadyContents.{SayTheValues}
use Rattle.mysql_steady_text.specs.SteadyLiterals.{AreSteadyLiterals, IsSteadyFor}
use Rattle.mysql_steady_text.specs.SteadyText.{IsSteadyText, IsAnywhereText}
use Rattle.mysql_steady_text.specs.SteadyTextErrors.{IsBindRefusal, IsSteadyRefusal}
use Rattle.mysql_steady_text.specs.declared.steady_text_error.SteadyTextError.{SteadyTextError}
use Rattle.mysql_steady_text.specs.declared.steady_text_error.SteadyTextError.TheVariants.{Unsteady, Bind}
use Rattle.mysql_steady_text.specs.declared.steady_text_error.SteadyTextError.TheVariants as error
use Rattle.mysql_steady_text.proofs.BothModesTextLemmas.{in_both_modes, nothing_said, on_servers_in_both, portable_text, said_in_both, shapes_of}
use Rattle.mysql_steady_text.proofs.SteadyLiteralLemmas.{all_wider}
use Rattle.mysql_steady_text.proofs.SteadySpliceLemmas.{all_both, joined_steady}

-- ---- a steady text is a text for both modes

-- the strings of a steady text hold no backslash
pub no_escapes_of : (mode : Bool) (text : List ℕ) (ts : List Token) → IsSteady text → IsTokens mode text ts → HoldNoEscapes ts
no_escapes_of mode text ts steady is = steady_tokens ts (subst (λ x. list_all is_steady x ≡ true) (sym is.text) steady)

abbrev pub both_of : (ts : List Token) (given : Given) (text : List ℕ) → IsSteadyText ts given text → IsTextInBothModes ts given text
both_of ts given text t = record {
  values = t.values;
  literals = t.literals;
  literal_tokens = t.literal_tokens;
  isolated = t.isolated;
  no_escapes = no_escapes_of true text (with_literal_tokens ts t.literal_tokens) t.steady (t.isolated true);
  no_cause = t.no_cause;
  looked_up = t.looked_up;
  in_range = t.in_range;
  written = t.written;
  text_is = t.text_is;
  tokens_of_literals = t.tokens_of_literals;
}

-- the literals of a steady text have their shape, and say its values
pub shapes_in : {ts : List Token} {given : Given} {text : List ℕ} → (t : IsSteadyText ts given text) → AreSteadyLiterals t.literals
shapes_in t = shapes_of t.values t.literals t.in_range t.written

pub said_in : (ts : List Token) (given : Given) (text : List ℕ) → (t : IsSteadyText ts given text) → SayTheValues ts t.values t.literals text
said_in ts given text t = said_in_both ts given text (both_of ts given text t)

abbrev pub steady_of : (ts : List Token) (given : Given) (text : List ℕ) → IsTextInBothModes ts given text → IsSteady text → IsSteadyText ts given text
steady_of ts given text t steady = record {
  values = t.values;
  literals = t.literals;
  literal_tokens = t.literal_tokens;
  isolated = t.isolated;
  steady = steady;
  no_cause = t.no_cause;
  looked_up = t.looked_up;
  in_range = t.in_range;
  written = t.written;
  text_is = t.text_is;
  tokens_of_literals = t.tokens_of_literals;
}

-- ---- the text of a steady query

pub is_steady_text : (query : List ℕ) (ts : List Token) (given : Given) (text : List ℕ) → IsTokens true query ts →
    IsSteady query → IsGivenText steady_literal_of IsSteadyFor ts given text → IsSteadyText ts given text
is_steady_text query ts given text is steady g =
    let t = in_both_modes query ts given text is (no_escapes_of true query ts steady is) g in
    steady_of ts given text t (joined_steady true query text ts t.literals is steady (shapes_of t.values t.literals t.in_range t.written) t.text_is)

-- ---- on servers

start_steady : (b : ℕ) → is_wide_start b ≡ true → is_steady b ≡ true
start_steady b h = grind (arith, nat_tests)

byte_steady : (b : ℕ) → is_wide_byte b ≡ true → is_steady b ≡ true
byte_steady b h = grind (arith, nat_tests)

name_steady : (name : List ℕ) → IsWideName name → list_all is_steady (bytes_of (Name name)) ≡ true
name_steady [] h = absurd h
name_steady (b ∷ bs) h = and_from _ _ refl (and_from _ _ (start_steady b h.0) (all_wider is_wide_byte is_steady byte_steady bs h.1))

-- what stands around the texts is steady, and so are names and marks
around : (ts : List Token) (texts : List (List ℕ)) → All IsWideName (names ts) → length texts ≡ place_count ts →
    list_all is_steady (bound ts texts) ≡ true → list_all is_steady (text_of ts) ≡ true
around [] texts names_are room h = refl
around (Name name ∷ ts) [] names_are room h = absurd (omega arith)
around (Name name ∷ ts) (text ∷ texts) names_are room h =
    all_both (bytes_of (Name name)) (text_of ts) (name_steady name (names_are 0 name (omega arith)))
    (around ts texts (All-tail IsWideName name (names ts) names_are) (omega arith) (all_parts is_steady text (bound ts texts) h).1)
around (Mark ∷ ts) [] names_are room h = absurd (omega arith)
around (Mark ∷ ts) (text ∷ texts) names_are room h =
    all_both (bytes_of Mark) (text_of ts) refl (around ts texts names_are (omega arith) (all_parts is_steady text (bound ts texts) h).1)
around (t ∷ ts) texts names_are room h =
    let p = all_parts is_steady (bytes_of t) (bound ts texts) h in
    all_both (bytes_of t) (text_of ts) p.0 (around ts texts names_are room p.1)

-- a query is steady if a text with others in its places is
pub steady_query : (reading : Reading) (query : List ℕ) (ts : List Token) (texts : List (List ℕ)) (text : List ℕ) → IsTokensIn reading query ts →
    joined_text (pieces ts) texts ≡ Some text → IsSteady text → IsSteady query
steady_query reading query ts texts text is e steady =
    subst (λ (x : List ℕ). list_all is_steady x ≡ true) (reading_text reading query ts is)
    (around ts texts (names_in_reading reading query ts is) (joined_text_count [] ts texts text e)
    (subst (λ (x : List ℕ). list_all is_steady x ≡ true) (joined_text_is ts texts text e) steady))

-- A server sees a steady text as it is. So it reads a text of a steady query over every set as it
-- reads the bytes that are sent.
pub seen_on_servers : (query : List ℕ) (ts : List Token) (replaced : List Token → List Token) (text : List ℕ) → IsSteady query → IsSteady text →
    IsReadInBothModes query ts replaced text → IsReadAnywhere query ts replaced text
seen_on_servers query ts replaced text steady own r = record {
  read = λ server mode set vs honest v. r.read server mode vs honest (subst (λ x. IsReadOn server mode x vs) (steady_seen set text own) v);
  tokens = λ server mode set us honest within u.
      subst (λ x. IsReadOn server mode x (replaced us)) (sym (steady_seen set text own)) (
      r.tokens server mode us honest within (subst (λ x. IsReadOn server mode x us) (steady_seen set query steady) u)
      );
}

module _ (query : List ℕ) (ts : List Token) (given : Given) (text : List ℕ) (is : IsTokens true query ts) (steady : IsSteady query) where
  both : (mode : Bool) → IsTokens mode query ts
  both mode = steady_other true mode query ts steady is

  pub is_anywhere_text : IsPortable ts → IsSteadyText ts given text → IsAnywhereText ts given text
  is_anywhere_text p t = record {
    steady_text = t;
    portable = p;
    portable_text = portable_text query ts given text both p (both_of ts given text t);
  }

  pub anywhere_on_servers : (t : IsAnywhereText ts given text) →
      IsReadAnywhere query ts (λ us. with_literal_tokens us t.steady_text.literal_tokens) text
  anywhere_on_servers t =
      seen_on_servers query ts (λ us. with_literal_tokens us t.steady_text.literal_tokens) text steady t.steady_text.steady
      (on_servers_in_both query ts given text both t.portable (both_of ts given text t.steady_text))

-- ---- as the calls promise it

-- a fact about the tokens of a steady query in one mode holds in the other mode
pub in_either : (query : List ℕ) (P : List Token → Type 0) (mode other : Bool) → IsSteady query → OnTokens mode query P →
    OnTokens other query P
in_either query P mode other steady o = (o.0, steady_other mode other query o.0 steady o.1, o.2)

pub steady_given : (query : List ℕ) (given : Given) (text : List ℕ) → IsSteady query →
    OnTokens false query (λ ts. IsGivenText steady_literal_of IsSteadyFor ts given text) →
    (mode : Bool) → OnTokens mode query (λ ts. IsSteadyText ts given text)
steady_given query given text steady o mode = (
  o.0,
  steady_other false mode query o.0 steady o.1,
  is_steady_text query o.0 given text (steady_other false true query o.0 steady o.1) steady o.2,
)

pub anywhere_answer : {A E : Type 0} (items : A → List ℕ) (r : Result A E) (query : List ℕ) (given : Given) → IsSteady query →
    OnTokens false query IsPortable →
    ((mode : Bool) → OnTokens mode query (λ ts. IfOk r (λ text. IsSteadyText ts given (items text)))) →
    (mode : Bool) → OnTokens mode query (λ ts. IfOk r (λ text. IsAnywhereText ts given (items text)))
anywhere_answer items (Ok text) query given steady p b mode =
    let o = on_both (grammar_reading true) query IsPortable (λ ts. IsSteadyText ts given (items text)) (in_either query IsPortable false true steady p) (b true) in
    (o.0, steady_other true mode query o.0 steady o.1, is_anywhere_text query o.0 given (items text) o.1 steady o.2.0 o.2.1)
anywhere_answer items (Err e) query given steady p b mode = nothing_said mode query

pub refused_answer : {A : Type 0} (r : Result A SteadyTextError) (mode : Bool) (query : List ℕ) (given : Given) (unportable : List Token → Option Unportable) →
    first_unsteady query ≡ None → OnTokens mode query (λ ts. unportable ts ≡ None) →
    OnTokens mode query (λ ts. IfErr r (IsBindRefusal (first_cause ts given))) →
    OnTokens mode query (λ ts. IfErr r (IsSteadyRefusal query (unportable ts) (first_cause ts given)))
refused_answer (Ok text) mode query given unportable steady p b = nothing_said mode query
refused_answer (Err (Unsteady at)) mode query given unportable steady p b = absurd b.2
refused_answer (Err (error.Unportable found)) mode query given unportable steady p b = absurd b.2
refused_answer (Err (Bind e)) mode query given unportable steady p b =
    on_map (grammar_reading mode) query (λ ts. (unportable ts ≡ None) × IsCauseOrMemory (first_cause ts given) e) (λ ts. IsSteadyRefusal query (unportable ts) (first_cause ts given) (Bind e))
    (λ ts is h. (steady, h.0, h.1))
    (on_both (grammar_reading mode) query (λ ts. unportable ts ≡ None) (λ ts. IsCauseOrMemory (first_cause ts given) e) p b)
