-- The text that is written with steady literals in the places of a query is the promised one for
-- both modes, if no string of the query has a backslash.
use Rattle.std.specs.Prelude.{All, Bool, IfSome, IsSomeAnd, Result, Ok, Err, IsErrAnd, ⊤}
use Rattle.std.proofs.Common.{◌≡◌, ◌++◌, ℕ, true, List, [], ◌∷◌, map, length, Option, Some, None, arith, refl, sym, ap, ◌∙◌, subst}
use Rattle.std.specs.List.{list_all}
use Rattle.std.proofs.lemmas.List.Elements.{All-cons, All-nil, All-tail}
use Rattle.mysql_values.specs.declared.value.Value.{Value}
use Rattle.mysql_values.specs.Content.{content_of}
use Rattle.mysql_values.specs.Value.{FieldsInRange}
use Rattle.mysql_sql_text.specs.ReadLiteral.{Content}
use Rattle.mysql_named_params.specs.Tokens.{Token, IsTokens, OnTokens, QuotedString, QuotedIdentifier, HashComment, DashComment, BlockComment, Name, Mark, Plain}
use Rattle.mysql_named_params.specs.Places.{place_count}
use Rattle.mysql_named_params.proofs.TokensExistLemmas.{tokens_exist}
use Rattle.mysql_portable.specs.Portable.{IsPortable, IsReadAs}
use Rattle.mysql_portable.specs.Quiet.{IsHonest, DecidesWithin}
use Rattle.mysql_portable.specs.Server.{Server, IsReadOn}
use Rattle.mysql_portable.specs.Steady.{is_steady, IsSteady, HoldNoEscapes}
use Rattle.mysql_portable.proofs.OtherModeLemmas.{tokens_other}
use Rattle.mysql_portable.proofs.PlaceTextLemmas.{placeless_join_no_number}
use Rattle.mysql_portable.proofs.SteadyLemmas.{steady_tokens}
use Rattle.mysql_params_core.specs.Given.{Given}
use Rattle.mysql_binding.specs.LiteralForm.{AreWrittenAs}
use Rattle.mysql_binding.specs.Pieces.{pieces, joined_text}
use Rattle.mysql_binding.specs.Replaced.{AreTokensOf, with_literal_tokens}
use Rattle.mysql_binding.specs.StandsAlone.{first_not_alone}
use Rattle.mysql_binding.specs.WrittenText.{IsGivenText}
use Rattle.mysql_binding.proofs.BoundText.{bound}
use Rattle.mysql_binding.proofs.CauseLemmas.{no_cause_parts, no_place_out}
use Rattle.mysql_binding.proofs.ContentsLemmas as read
use Rattle.mysql_binding.proofs.PieceLemmas.{joined_text_count, joined_text_is}
use Rattle.mysql_binding.proofs.SpliceLemmas.{Each}
use Rattle.mysql_binding.proofs.ValueLiteralLemmas.{mapped_literals}
use Rattle.mysql_steady_text.specs.OnServers.{IsReadInBothModes}
use Rattle.mysql_steady_text.specs.ReadSteadyLiteral.{read_steady_literal, ReadsSteadyAs, ReadsSteadyBefore}
use Rattle.mysql_steady_text.specs.SteadyContents.{SayTheValues}
use Rattle.mysql_steady_text.specs.SteadyLiteral.{steady_literal_of}
use Rattle.mysql_steady_text.specs.SteadyLiterals.{AreSteadyLiterals, AreSteadyLiteralsOf, IsSteadyFor}
use Rattle.mysql_steady_text.specs.SteadyShape.{IsSteadyLiteral}
use Rattle.mysql_steady_text.specs.BothModesText.{IsTextInBothModes, IsPortableInBothModes}
use Rattle.mysql_steady_text.proofs.SteadyLiteralLemmas.{steady_bytes, steady_reads, steady_shape}
use Rattle.mysql_steady_text.proofs.SteadySpliceLemmas.{steady_lists, tokens_of_other, steady_isolated, steady_places, steady_portable, steady_on, steady_read}

-- ---- the facts about the literals

-- of a value whose fields are in range
pub steady_known : (v : Value) (text : List ℕ) → FieldsInRange v → steady_literal_of v ≡ Some text → IsSteadyFor v text
steady_known v text range is = (
  subst (λ o. IfSome o IsSteadyLiteral) is (steady_shape v range),
  subst (λ o. IfSome o IsSteady) is (steady_bytes v range),
  subst (λ o. IfSome o (ReadsSteadyAs v)) is (steady_reads v range),
  range,
)

written_as : (values : List Value) (texts : List (List ℕ)) → All FieldsInRange values → AreSteadyLiteralsOf values texts →
    AreWrittenAs steady_literal_of IsSteadyFor values texts
written_as [] [] range e = tt
written_as [] (text ∷ texts) range e = absurd cc
written_as (v ∷ values) [] range e = absurd cc
written_as (v ∷ values) (text ∷ texts) range e =
    let first : steady_literal_of v ≡ Some text = cc in
    let more : AreSteadyLiteralsOf values texts = cc in
    (first, steady_known v text (range 0 v (omega arith)) first, written_as values texts (All-tail FieldsInRange v values range) more)

values_in_range : (values : List Value) (texts : List (List ℕ)) → AreWrittenAs steady_literal_of IsSteadyFor values texts →
    All FieldsInRange values
values_in_range [] texts h = All-nil FieldsInRange
values_in_range (v ∷ values) [] h = absurd h
values_in_range (v ∷ values) (text ∷ texts) h = All-cons FieldsInRange v values h.1.3 (values_in_range values texts h.2)

steady_shapes : (values : List Value) (texts : List (List ℕ)) → AreWrittenAs steady_literal_of IsSteadyFor values texts →
    AreSteadyLiterals texts
steady_shapes [] [] h = tt
steady_shapes [] (text ∷ texts) h = absurd h
steady_shapes (v ∷ values) [] h = absurd h
steady_shapes (v ∷ values) (text ∷ texts) h = (h.1.0, h.1.1, steady_shapes values texts h.2)

-- the contents of the values, and that their literals read in either mode as these
record HaveContents (values : List Value) (texts : List (List ℕ)) : Type 0 where
  pub contents : List Content
  pub contents_are : map content_of values ≡ map Some contents
  pub reads : (mode : Bool) → read.AreReadAs (read_steady_literal mode) texts contents

contents_of_all : (values : List Value) (texts : List (List ℕ)) → AreWrittenAs steady_literal_of IsSteadyFor values texts →
    HaveContents values texts
contents_of_all [] [] h = record { contents = []; contents_are = refl; reads = λ mode. tt }
contents_of_all [] (text ∷ texts) h = absurd h
contents_of_all (v ∷ values) [] h = absurd h
contents_of_all (v ∷ values) (text ∷ texts) h = one (content_of v) refl h.1.2 (contents_of_all values texts h.2)
  where
    one : (c : Option Content) → content_of v ≡ c → IsSomeAnd c (ReadsSteadyBefore text) → HaveContents values texts →
        HaveContents (v ∷ values) (text ∷ texts)
    one None e r more = absurd r
    one (Some content) e r more = record {
      contents = content ∷ more.contents;
      contents_are = ap (λ c. c ∷ map content_of values) e ∙ ap (λ cs. Some content ∷ cs) more.contents_are;
      reads = λ mode. (r mode, more.reads mode);
    }

pub shapes_of : (values : List Value) (texts : List (List ℕ)) → All FieldsInRange values → AreSteadyLiteralsOf values texts →
    AreSteadyLiterals texts
shapes_of values texts range e = steady_shapes values texts (written_as values texts range e)

-- the literals in their places say the values
pub say_the_values : (ts : List Token) (values : List Value) (texts : List (List ℕ)) (text : List ℕ) → first_not_alone ts ≡ None →
    All FieldsInRange values → AreSteadyLiteralsOf values texts → joined_text (pieces ts) texts ≡ Some text → SayTheValues ts values texts text
say_the_values ts values texts text alone range e exact =
    let written = written_as values texts range e in
    let s = contents_of_all values texts written in
    let room : length texts ≡ place_count ts = joined_text_count [] ts texts text exact in
    let text_is : text ≡ bound ts texts = joined_text_is ts texts text exact in
    record {
      shapes = steady_shapes values texts written;
      contents = s.contents;
      contents_are = s.contents_are;
      reads_in_place = λ mode. read.in_place (read_steady_literal mode) ts 0 [] [] texts s.contents alone (s.reads mode) room;
      read_back = λ mode. rw text_is (read.contents_of_bound (read_steady_literal mode) ts 0 [] [] texts s.contents alone (s.reads mode) room);
    }

-- ---- no string of the text has a backslash

no_escapes_both : (ts us : List Token) → HoldNoEscapes ts → HoldNoEscapes us → HoldNoEscapes (ts ++ us)
no_escapes_both [] us h k = k
no_escapes_both (t ∷ ts) us h k = (h.0, no_escapes_both ts us h.1 k)

each_no_escapes : (mode : Bool) (literals : List (List ℕ)) (lists : List (List Token)) → AreSteadyLiterals literals →
    AreTokensOf mode literals lists → Each HoldNoEscapes lists
each_no_escapes mode [] [] s a = tt
each_no_escapes mode [] (list ∷ lists) s a = absurd a
each_no_escapes mode (literal ∷ literals) [] s a = absurd a
each_no_escapes mode (literal ∷ literals) (list ∷ lists) s a =
    (steady_tokens list (subst (λ x. list_all is_steady x ≡ true) (sym a.0.text) s.1), each_no_escapes mode literals lists s.2 a.1)

pub no_escapes_in : (ts : List Token) (lists : List (List Token)) → HoldNoEscapes ts → Each HoldNoEscapes lists →
    HoldNoEscapes (with_literal_tokens ts lists)
no_escapes_in [] lists h s = tt
no_escapes_in (Name name ∷ ts) [] h s = (h.0, no_escapes_in ts [] h.1 s)
no_escapes_in (Name name ∷ ts) (list ∷ lists) h s =
    no_escapes_both list (with_literal_tokens ts lists) s.0 (no_escapes_in ts lists h.1 s.1)
no_escapes_in (Mark ∷ ts) [] h s = (h.0, no_escapes_in ts [] h.1 s)
no_escapes_in (Mark ∷ ts) (list ∷ lists) h s =
    no_escapes_both list (with_literal_tokens ts lists) s.0 (no_escapes_in ts lists h.1 s.1)
no_escapes_in (QuotedString quote tail ∷ ts) lists h s = (h.0, no_escapes_in ts lists h.1 s)
no_escapes_in (QuotedIdentifier tail ∷ ts) lists h s = (h.0, no_escapes_in ts lists h.1 s)
no_escapes_in (HashComment tail ∷ ts) lists h s = (h.0, no_escapes_in ts lists h.1 s)
no_escapes_in (DashComment gap tail ∷ ts) lists h s = (h.0, no_escapes_in ts lists h.1 s)
no_escapes_in (BlockComment tail ∷ ts) lists h s = (h.0, no_escapes_in ts lists h.1 s)
no_escapes_in (Plain b ∷ ts) lists h s = (h.0, no_escapes_in ts lists h.1 s)

no_escapes_behind : (ts us : List Token) → HoldNoEscapes (ts ++ us) → HoldNoEscapes us
no_escapes_behind [] us h = h
no_escapes_behind (t ∷ ts) us h = no_escapes_behind ts us h.1

-- no string of the query has one, if none of the text does
pub no_escapes_out : (ts : List Token) (lists : List (List Token)) → HoldNoEscapes (with_literal_tokens ts lists) → HoldNoEscapes ts
no_escapes_out [] lists h = tt
no_escapes_out (Name name ∷ ts) [] h = (h.0, no_escapes_out ts [] h.1)
no_escapes_out (Name name ∷ ts) (list ∷ lists) h = (refl, no_escapes_out ts lists (no_escapes_behind list (with_literal_tokens ts lists) h))
no_escapes_out (Mark ∷ ts) [] h = (h.0, no_escapes_out ts [] h.1)
no_escapes_out (Mark ∷ ts) (list ∷ lists) h = (refl, no_escapes_out ts lists (no_escapes_behind list (with_literal_tokens ts lists) h))
no_escapes_out (QuotedString quote tail ∷ ts) lists h = (h.0, no_escapes_out ts lists h.1)
no_escapes_out (QuotedIdentifier tail ∷ ts) lists h = (h.0, no_escapes_out ts lists h.1)
no_escapes_out (HashComment tail ∷ ts) lists h = (h.0, no_escapes_out ts lists h.1)
no_escapes_out (DashComment gap tail ∷ ts) lists h = (h.0, no_escapes_out ts lists h.1)
no_escapes_out (BlockComment tail ∷ ts) lists h = (h.0, no_escapes_out ts lists h.1)
no_escapes_out (Plain b ∷ ts) lists h = (h.0, no_escapes_out ts lists h.1)

-- ---- the text

pub in_both_modes : (query : List ℕ) (ts : List Token) (given : Given) (text : List ℕ) → IsTokens true query ts →
    HoldNoEscapes ts → IsGivenText steady_literal_of IsSteadyFor ts given text → IsTextInBothModes ts given text
in_both_modes query ts given text is none g =
    let values = g.values in
    let texts = g.written_text.literals in
    let exact = g.written_text.text_is in
    let alone = no_place_out ts values (no_cause_parts ts given values g.no_cause g.looked_up).1 in
    let shapes = steady_shapes values texts g.written_text.written in
    let lists = steady_lists texts shapes in
    record {
      values = values;
      literals = texts;
      literal_tokens = lists.0;
      isolated = λ mode.
          steady_isolated mode text ts texts lists.0 alone shapes (tokens_of_other true mode texts lists.0 shapes lists.1) exact
          query (tokens_other true mode query ts none is);
      no_escapes = no_escapes_in ts lists.0 none (each_no_escapes true texts lists.0 shapes lists.1);
      no_cause = g.no_cause;
      looked_up = g.looked_up;
      in_range = values_in_range values texts g.written_text.written;
      written = mapped_literals steady_literal_of IsSteadyFor values texts g.written_text.written;
      text_is = exact;
      tokens_of_literals = λ mode. tokens_of_other true mode texts lists.0 shapes lists.1;
    }

-- ---- on servers

module _ (query text : List ℕ) (ts : List Token) (literals : List (List ℕ)) (lists : List (List Token)) (is : (mode : Bool) → IsTokens mode query ts) (p : IsPortable ts) (n : first_not_alone ts ≡ None) (s : AreSteadyLiterals literals) (a : (mode : Bool) → AreTokensOf mode literals lists) (e : joined_text (pieces ts) literals ≡ Some text) where
  pub is_portable : IsPortable (with_literal_tokens ts lists)
  is_portable = record {
    alike = steady_portable true text ts literals lists n s (a true) e query (is true) p.alike;
    apart = placeless_join_no_number true _ (steady_isolated true text ts literals lists n s (a true) e query (is true)).each (steady_places true text ts literals lists n s (a true) e);
  }

  pub read_in_both : (server : Server) (mode : Bool) (vs : List Token) → IsHonest server → IsReadOn server mode text vs →
      IsReadAs (with_literal_tokens ts lists) vs
  read_in_both server mode vs honest v = steady_read mode text ts literals lists n s (a mode) e query (is mode) p.alike server vs honest v

  pub tokens_in_both : (server : Server) (mode : Bool) (us : List Token) → IsHonest server → DecidesWithin server →
      IsReadOn server mode query us → IsReadOn server mode text (with_literal_tokens us lists)
  tokens_in_both server mode us honest within u = steady_on mode text ts literals lists n s (a mode) e query (is mode) p.alike server us honest within u

pub alone_in : (ts : List Token) (given : Given) (text : List ℕ) → IsTextInBothModes ts given text → first_not_alone ts ≡ None
alone_in ts given text t = no_place_out ts t.values (no_cause_parts ts given t.values t.no_cause t.looked_up).1

-- the literals of a text for both modes say its values
pub said_in_both : (ts : List Token) (given : Given) (text : List ℕ) → (t : IsTextInBothModes ts given text) →
    SayTheValues ts t.values t.literals text
said_in_both ts given text t =
    say_the_values ts t.values t.literals text (alone_in ts given text t) t.in_range t.written t.text_is

module _ (query : List ℕ) (ts : List Token) (given : Given) (text : List ℕ) (is : (mode : Bool) → IsTokens mode query ts) (p : IsPortable ts) (t : IsTextInBothModes ts given text) where
  shapes : AreSteadyLiterals t.literals
  shapes = shapes_of t.values t.literals t.in_range t.written

  pub portable_text : IsPortable (with_literal_tokens ts t.literal_tokens)
  portable_text = is_portable query text ts t.literals t.literal_tokens is p (alone_in ts given text t) shapes t.tokens_of_literals t.text_is

  pub portable_in_both : IsPortableInBothModes ts given text
  portable_in_both = record { text_in_both_modes = t; portable = p; portable_text = portable_text }

  pub on_servers_in_both : IsReadInBothModes query ts (λ us. with_literal_tokens us t.literal_tokens) text
  on_servers_in_both = record {
    read = read_in_both query text ts t.literals t.literal_tokens is p (alone_in ts given text t) shapes t.tokens_of_literals t.text_is;
    tokens = tokens_in_both query text ts t.literals t.literal_tokens is p (alone_in ts given text t) shapes t.tokens_of_literals t.text_is;
  }

-- ---- as the calls promise it

-- a query has tokens
pub nothing_said : (mode : Bool) (query : List ℕ) → OnTokens mode query (λ ts. ⊤)
nothing_said mode query = let t = tokens_exist mode query in (t.0, t.1, tt)

-- a call that hands on an error
pub is_handed_on : {A E : Type 0} (r : Result A E) (e : E) → IsErrAnd r (λ t. t ≡ e) → r ≡ Err e
is_handed_on (Ok a) e same = absurd same
is_handed_on (Err t) e same = ap (λ x. Err x) same
