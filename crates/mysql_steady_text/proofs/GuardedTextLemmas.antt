-- The text that is written with guarded literals in the places of a steady query is the promised
-- one.
use Rattle.std.specs.Prelude.{Bool, not, IsSomeAnd}
use Rattle.std.proofs.Common.{◌≡◌, ℕ, true, false, List, [], ◌∷◌, map, length, Option, Some, None, refl, ap, ◌∙◌}
use Rattle.mysql_values.specs.declared.value.Value.{Value}
use Rattle.mysql_values.specs.Content.{content_of}
use Rattle.mysql_sql_text.specs.ReadLiteral.{Content}
use Rattle.mysql_named_params.specs.Tokens.{Token, IsTokens, OnTokens}
use Rattle.mysql_named_params.specs.Places.{place_count}
use Rattle.mysql_portable.specs.CharacterSet.{CharacterSet, seen}
use Rattle.mysql_portable.specs.Steady.{IsSteady}
use Rattle.mysql_portable.proofs.SteadyLemmas.{steady_other}
use Rattle.mysql_params_core.specs.Given.{Given}
use Rattle.mysql_binding.specs.LiteralForm.{AreWrittenAs}
use Rattle.mysql_binding.specs.Pieces.{pieces, joined_text}
use Rattle.mysql_binding.specs.StandsAlone.{first_not_alone}
use Rattle.mysql_binding.specs.WrittenText.{IsGivenText}
use Rattle.mysql_binding.proofs.CauseLemmas.{no_cause_parts, no_place_out}
use Rattle.mysql_binding.proofs.PieceLemmas.{joined_text_count}
use Rattle.mysql_binding.proofs.ValueLiteralLemmas.{mapped_literals}
use Rattle.mysql_steady_text.specs.ClientSet.{IsClientSet}
use Rattle.mysql_steady_text.specs.GuardedLiteral.{guarded_literal_of}
use Rattle.mysql_steady_text.specs.GuardedLiterals.{AreGuardedLiterals, AreKeptApart, IsGuardedFor}
use Rattle.mysql_steady_text.specs.GuardedText.{IsGuardedText}
use Rattle.mysql_steady_text.specs.ReadGuarded.{AreUpToBackslashes, ReadsOver, ReadsNearly}
use Rattle.mysql_steady_text.specs.SeenText.{IsIsolatedOver}
use Rattle.mysql_steady_text.proofs.GuardedSpliceLemmas.{guarded_lists, tokens_of_other, guarded_isolated}
use Rattle.mysql_steady_text.proofs.InPlaceLemmas.{AreReadAs, in_place}
use Rattle.mysql_steady_text.proofs.SeenLemmas.{text_seen}

-- ---- the facts about the literals

guarded_shapes : (mode : Bool) (values : List Value) (texts : List (List ℕ)) →
    AreWrittenAs (guarded_literal_of mode) (IsGuardedFor mode) values texts → AreGuardedLiterals texts
guarded_shapes mode [] [] h = tt
guarded_shapes mode [] (text ∷ texts) h = absurd h
guarded_shapes mode (v ∷ values) [] h = absurd h
guarded_shapes mode (v ∷ values) (text ∷ texts) h = (h.1.0, guarded_shapes mode values texts h.2)

guarded_kept_apart : (mode : Bool) (values : List Value) (texts : List (List ℕ)) →
    AreWrittenAs (guarded_literal_of mode) (IsGuardedFor mode) values texts → AreKeptApart texts
guarded_kept_apart mode [] [] h = tt
guarded_kept_apart mode [] (text ∷ texts) h = absurd h
guarded_kept_apart mode (v ∷ values) [] h = absurd h
guarded_kept_apart mode (v ∷ values) (text ∷ texts) h = (h.1.1, guarded_kept_apart mode values texts h.2)

-- the contents of the values, and that their literals read as these in the mode, and nearly in the
-- other
record HaveContents (mode : Bool) (values : List Value) (texts : List (List ℕ)) : Type 0 where
  pub contents : List Content
  pub others : List Content
  pub contents_are : map content_of values ≡ map Some contents
  pub nearly : AreUpToBackslashes contents others
  pub reads : AreReadAs mode texts contents
  pub reads_other : AreReadAs (not mode) texts others

contents_of_all : (mode : Bool) (values : List Value) (texts : List (List ℕ)) →
    AreWrittenAs (guarded_literal_of mode) (IsGuardedFor mode) values texts → HaveContents mode values texts
contents_of_all mode [] [] h =
    record { contents = []; others = []; contents_are = refl; nearly = tt; reads = tt; reads_other = tt }
contents_of_all mode [] (text ∷ texts) h = absurd h
contents_of_all mode (v ∷ values) [] h = absurd h
contents_of_all mode (v ∷ values) (text ∷ texts) h = one (content_of v) refl h.1.2 (contents_of_all mode values texts h.2)
  where
    one : (c : Option Content) → content_of v ≡ c →
        IsSomeAnd c (λ content. ReadsOver mode text content × ReadsNearly (not mode) text content) → HaveContents mode values texts →
        HaveContents mode (v ∷ values) (text ∷ texts)
    one None e r more = absurd r
    one (Some content) e r more = record {
      contents = content ∷ more.contents;
      others = r.1.0 ∷ more.others;
      contents_are = ap (λ c. c ∷ map content_of values) e ∙ ap (λ cs. Some content ∷ cs) more.contents_are;
      nearly = (r.1.1, more.nearly);
      reads = (r.0, more.reads);
      reads_other = (r.1.2, more.reads_other);
    }

-- ---- over a client set

isolated_over : (set : CharacterSet) (query text : List ℕ) (ts : List Token) (literals : List (List ℕ)) → IsClientSet set →
    ((mode : Bool) → IsTokens mode query ts) → IsSteady query → first_not_alone ts ≡ None → AreGuardedLiterals literals →
    AreKeptApart literals →
    joined_text (pieces ts) literals ≡ Some text → IsIsolatedOver set ts literals text
isolated_over set query text ts literals client is steady alone s a e =
    let v = text_seen set client true query text ts literals (is true) steady s a e in
    let lists = guarded_lists true v.shown v.shapes in
    record {
      in_places = v;
      shown_tokens = lists.0;
      tokens_of_shown = λ mode. tokens_of_other true mode v.shown lists.0 v.shapes lists.1;
      isolated = λ mode.
          guarded_isolated mode (seen set text) ts v.shown lists.0 alone v.shapes
          (tokens_of_other true mode v.shown lists.0 v.shapes lists.1) v.text_is query (is mode);
    }

-- ---- the text

pub is_guarded_text : (mode : Bool) (query : List ℕ) (ts : List Token) (given : Given) (text : List ℕ) →
    ((other : Bool) → IsTokens other query ts) → IsSteady query →
    IsGivenText (guarded_literal_of mode) (IsGuardedFor mode) ts given text → IsGuardedText mode ts given text
is_guarded_text mode query ts given text is steady g =
    let values = g.values in
    let texts = g.written_text.literals in
    let exact = g.written_text.text_is in
    let alone = no_place_out ts values (no_cause_parts ts given values g.no_cause g.looked_up).1 in
    let shapes = guarded_shapes mode values texts g.written_text.written in
    let apart = guarded_kept_apart mode values texts g.written_text.written in
    let lists = guarded_lists true texts shapes in
    let s = contents_of_all mode values texts g.written_text.written in
    let room : length texts ≡ place_count ts = joined_text_count [] ts texts text exact in
    record {
      values = values;
      literals = texts;
      literal_tokens = lists.0;
      contents = s.contents;
      other_contents = s.others;
      isolated = λ other.
          guarded_isolated other text ts texts lists.0 alone shapes (tokens_of_other true other texts lists.0 shapes lists.1) exact
          query (is other);
      isolated_over = λ set client. isolated_over set query text ts texts client is steady alone shapes apart exact;
      reads_in_place = λ set client. in_place set client mode ts 0 [] [] texts s.contents alone s.reads room;
      nearly_in_place = λ set client. in_place set client (not mode) ts 0 [] [] texts s.others alone s.reads_other room;
      nearly = s.nearly;
      no_cause = g.no_cause;
      looked_up = g.looked_up;
      written = mapped_literals (guarded_literal_of mode) (IsGuardedFor mode) values texts g.written_text.written;
      shapes = shapes;
      kept_apart = apart;
      text_is = exact;
      tokens_of_literals = λ other. tokens_of_other true other texts lists.0 shapes lists.1;
      contents_are = s.contents_are;
    }

pub alone_in : (mode : Bool) (ts : List Token) (given : Given) (text : List ℕ) → IsGuardedText mode ts given text → first_not_alone ts ≡ None
alone_in mode ts given text t = no_place_out ts t.values (no_cause_parts ts given t.values t.no_cause t.looked_up).1

-- ---- as the calls promise it

pub guarded_given : (mode : Bool) (query : List ℕ) (given : Given) (text : List ℕ) → IsSteady query →
    OnTokens false query (λ ts. IsGivenText (guarded_literal_of mode) (IsGuardedFor mode) ts given text) →
    (other : Bool) → OnTokens other query (λ ts. IsGuardedText mode ts given text)
guarded_given mode query given text steady o other = (
  o.0,
  steady_other false other query o.0 steady o.1,
  is_guarded_text mode query o.0 given text (λ read_mode. steady_other false read_mode query o.0 steady o.1) steady o.2,
)
