-- The tokens of a script, by those of the texts of its rows.
use Rattle.std.specs.Prelude.{Bool, codes, if◌then◌else◌}
use Rattle.std.proofs.Common.{◌≡◌, ◌++◌, ◌==◌, ℕ, true, false, List, [], ◌∷◌, map, refl, sym, ap, ◌∙◌, subst}
use Rattle.std.specs.List.{list_all}
use Rattle.std.proofs.lemmas.Bool.{and_parts}
use Rattle.mysql_named_params.specs.Bytes.{backquote, colon, dash, double_quote, hash, question_mark, single_quote, slash}
use Rattle.mysql_named_params.specs.Places.{names}
use Rattle.mysql_named_params.specs.PlainBytes.{is_always_plain}
use Rattle.mysql_named_params.specs.Reading.{IsTokensIn, wide_reading}
use Rattle.mysql_named_params.specs.Tokens.{Token, IsToken, IsTokens, AreTokensBefore, text_of, Plain}
use Rattle.mysql_named_params.proofs.TokenEnds.{plain_at}
use Rattle.mysql_named_params.proofs.TokenRowLemmas.{text_of-append, AreTokensBefore-append}
use Rattle.mysql_binding.specs.Replaced.{AreTokensOf}
use Rattle.mysql_binding.proofs.LiteralTokenLemmas.{other}
use Rattle.mysql_binding.proofs.SpliceLemmas.{Each}
use Rattle.mysql_fragments.specs.GivenFragments.{GivenFragments}
use Rattle.mysql_bind_core.specs.Bound.{IsWritten, IsAssignedText}
use Rattle.mysql_bind_core.specs.Entries.{IsAskedText, given_to}
use Rattle.mysql_bind_core.specs.Requests.{IsReadIn, mode_of}
use Rattle.mysql_bind_core.specs.declared.assignment.Assignment.{Assignment}
use Rattle.mysql_bind_core.specs.declared.request.Literals.{Literals}
use Rattle.mysql_bind_core.specs.declared.request.Literals.TheVariants as literals
use Rattle.mysql_bind_core.specs.declared.request.Request.{Request}
use Rattle.mysql_bind_core.specs.declared.row.Row.{Row}
use Rattle.mysql_bind_core.specs.Scripts.{AreStatements, AreWritten, IsScript, closing, opening, script, statement}
use Rattle.mysql_bind_core.specs.ScriptTokens.{script_tokens, statement_tokens, tokens_of_statements, word_tokens}
use Rattle.mysql_bind_core.proofs.BoundLineLemmas.{HasLine, IsClosedLowered, closed_lowered, fragments_line, steady_fragments_line}
use Rattle.mysql_bind_core.proofs.FragmentTextLemmas.{IsBoundFor, bound_for}
use Rattle.mysql_bind_core.proofs.LineLemmas.{line_end, EndClosed, closed_before, statement_before, statement_text}

-- ---- the text of a row

bound_line : (literals : Literals) (ts : List Token) (given : GivenFragments) (text : List ℕ)
    (mode : Bool) → IsReadIn literals mode → IsClosedLowered (mode_of literals) ts →
    IsBoundFor literals ts given text → HasLine mode text
bound_line literals.Steady ts given text mode r c b = steady_fragments_line ts given text c b mode
bound_line (literals.Plain own) ts given text mode r c b =
    subst (λ m. HasLine m text) r (fragments_line own ts given text c b)

pub named_line : (literals : Literals) (query : List ℕ) (ts : List Token) (given : GivenFragments) (text : List ℕ)
    (mode : Bool) → IsReadIn literals mode → IsTokensIn (wide_reading (mode_of literals)) query ts → IsClosedLowered (mode_of literals) ts →
    IsAskedText literals ts given text → HasLine mode text
named_line literals query ts given text mode r is c b =
    bound_line literals ts given text mode r c (bound_for literals query text ts given is b)

assigned_line : (request : Request) (query : List ℕ) (assignments : List Assignment) (text : List ℕ) (mode : Bool) →
    IsReadIn request.literals mode → ((ts : List Token) → IsTokensIn (wide_reading (mode_of request.literals)) query ts → IsClosedLowered (mode_of request.literals) ts) →
    IsAssignedText request query assignments text → HasLine mode text
assigned_line request query assignments text mode r c x =
    let o = x.bound in
    named_line request.literals query o.0 (given_to assignments x.entries (names o.0)) text mode r o.1 (c o.0 o.1) o.2

written_line : (request : Request) (query : List ℕ) (assignments : List Assignment) (text : List ℕ) (mode : Bool) →
    IsReadIn request.literals mode → IsWritten request query assignments text → HasLine mode text
written_line request query assignments text mode r w =
    assigned_line request query assignments text mode r (λ ts h. closed_lowered (mode_of request.literals) query ts h w.taken.closed) w.assigned

-- the texts have tokens, and each ends within none
pub record HasLines (mode : Bool) (texts : List (List ℕ)) : Type 0 where
  pub lists : List (List Token)
  pub tokens_of : AreTokensOf mode texts lists
  pub closed : Each (EndClosed mode) lists

written_lines : (request : Request) (query : List ℕ) (mode : Bool) → IsReadIn request.literals mode → (rows : List Row)
    (texts : List (List ℕ)) → AreWritten request query rows texts → HasLines mode texts
written_lines request query mode r [] [] w = record { lists = []; tokens_of = tt; closed = tt }
written_lines request query mode r (row ∷ rows) [] w = absurd w
written_lines request query mode r [] (text ∷ texts) w = absurd w
written_lines request query mode r (row ∷ rows) (text ∷ texts) w =
    let one = written_line request query row.assignments.items text mode r w.0 in
    let more = written_lines request query mode r rows texts w.1 in
    record { lists = one.tokens ∷ more.lists; tokens_of = (one.is, more.tokens_of); closed = (one.closed, more.closed) }

-- ---- tokens of one text and then of another

-- this text is these tokens, whatever follows
record IsCut (mode : Bool) (text : List ℕ) (ts : List Token) : Type 0 where
  text_is : text_of ts ≡ text
  before : (rest : List ℕ) → AreTokensBefore mode rest ts

cut_none : (mode : Bool) → IsCut mode [] []
cut_none mode = record { text_is = refl; before = λ rest. tt }

cut_both : (mode : Bool) (text more : List ℕ) (ts us : List Token) → IsCut mode text ts → IsCut mode more us →
    IsCut mode (text ++ more) (ts ++ us)
cut_both mode text more ts us a b = record {
  text_is = text_of-append ts us ∙ ap (λ x. x ++ text_of us) a.text_is ∙ ap (λ x. text ++ x) b.text_is;
  before = λ rest. AreTokensBefore-append mode ts us rest (a.before _) (b.before rest);
}

statement_cut : (mode : Bool) (text : List ℕ) (ts : List Token) → IsTokens mode text ts → EndClosed mode ts →
    IsCut mode (statement text) (statement_tokens ts)
statement_cut mode text ts h c = record {
  text_is = subst (λ x. text_of (statement_tokens ts) ≡ statement x) h.text (statement_text ts);
  before = statement_before mode ts h.each c;
}

statements_cut : (mode : Bool) (texts : List (List ℕ)) (lists : List (List Token)) → AreTokensOf mode texts lists →
    Each (EndClosed mode) lists → IsCut mode (script texts) (tokens_of_statements lists)
statements_cut mode [] [] a e = cut_none mode
statements_cut mode [] (list ∷ lists) a e = absurd a
statements_cut mode (text ∷ texts) [] a e = absurd a
statements_cut mode (text ∷ texts) (list ∷ lists) a e =
    cut_both mode (statement text) (script texts) (statement_tokens list) (tokens_of_statements lists)
    (statement_cut mode text list a.0 e.0) (statements_cut mode texts lists a.1 e.1)

-- ---- words

always_plain : (mode : Bool) (b : ℕ) → is_always_plain b ≡ true → (rest : List ℕ) → IsToken mode (Plain b) rest
always_plain mode b h rest =
    plain_at mode b rest (rw (not_k single_quote refl, not_k double_quote refl, not_k backquote refl, not_k hash refl, not_k dash refl, not_k slash refl, not_k colon refl, not_k question_mark refl) refl)
  where
    not_k : (k : ℕ) → is_always_plain k ≡ false → (b == k) ≡ false
    not_k k f = other is_always_plain b k h f

bytes_before : (mode : Bool) (bytes : List ℕ) → list_all is_always_plain bytes ≡ true → (rest : List ℕ) →
    AreTokensBefore mode rest (map (λ b. Plain b) bytes)
bytes_before mode [] h rest = tt
bytes_before mode (b ∷ bytes) h rest =
    let p = and_parts (is_always_plain b) (list_all is_always_plain bytes) h in
    (always_plain mode b p.0 _, bytes_before mode bytes p.1 rest)

bytes_text : (bytes : List ℕ) → text_of (map (λ b. Plain b) bytes) ≡ bytes
bytes_text [] = refl
bytes_text (b ∷ bytes) = ap (λ x. b ∷ x) (bytes_text bytes)

word_cut : (mode : Bool) (bytes : List ℕ) → list_all is_always_plain bytes ≡ true → IsCut mode (statement bytes) (word_tokens bytes)
word_cut mode bytes h =
    statement_cut mode bytes (map (λ b. Plain b) bytes) (record { text = bytes_text bytes; each = bytes_before mode bytes h [] })
    (closed_before mode (map (λ b. Plain b) bytes) (bytes_before mode bytes h line_end))

word_cut_if : (mode wanted : Bool) (bytes : List ℕ) → list_all is_always_plain bytes ≡ true →
    IsCut mode (if wanted then statement bytes else []) (if wanted then word_tokens bytes else [])
word_cut_if mode true bytes h = word_cut mode bytes h
word_cut_if mode false bytes h = cut_none mode

-- ---- scripts

cut_is : (mode : Bool) (text bytes : List ℕ) (ts : List Token) → bytes ≡ text → IsCut mode text ts → IsTokens mode bytes ts
cut_is mode text bytes ts e c = record { text = c.text_is ∙ sym e; each = c.before [] }

-- the tokens of the script of such texts
pub tokens_of_lines : (transaction mode : Bool) (texts : List (List ℕ)) (bytes : List ℕ) → (l : HasLines mode texts) →
    bytes ≡ (opening transaction ++ script texts) ++ closing transaction →
    (lists : List (List Token)) × AreTokensOf mode texts lists × IsTokens mode bytes (script_tokens transaction lists)
tokens_of_lines transaction mode texts bytes l whole =
    let first = word_cut_if mode transaction (codes "START TRANSACTION") refl in
    let last = word_cut_if mode transaction (codes "COMMIT") refl in
    let inner = statements_cut mode texts l.lists l.tokens_of l.closed in (
      l.lists,
      l.tokens_of,
      cut_is mode _ bytes (script_tokens transaction l.lists) whole
          (cut_both mode (opening transaction ++ script texts) (closing transaction) _ _ (cut_both mode (opening transaction) (script texts) _ _ first inner) last),
    )

pub tokens_of_script : (request : Request) (query : List ℕ) (rows : List Row) (transaction mode : Bool) (bytes : List ℕ) →
    IsReadIn request.literals mode → (s : IsScript request query rows transaction bytes) →
    (lists : List (List Token)) × AreTokensOf mode s.texts lists × IsTokens mode bytes (script_tokens transaction lists)
tokens_of_script request query rows transaction mode bytes r s =
    tokens_of_lines transaction mode s.texts bytes (written_lines request query mode r rows s.texts s.written) s.whole

pub tokens_of_statements_alone : (request : Request) (query : List ℕ) (rows : List Row) (mode : Bool) (bytes : List ℕ) →
    IsReadIn request.literals mode → (s : AreStatements request query rows [] bytes) →
    (lists : List (List Token)) × AreTokensOf mode s.texts lists × IsTokens mode bytes (tokens_of_statements lists)
tokens_of_statements_alone request query rows mode bytes r s =
    let l = written_lines request query mode r rows s.texts s.written in
    (l.lists, l.tokens_of, cut_is mode (script s.texts) bytes (tokens_of_statements l.lists) s.bytes (statements_cut mode s.texts l.lists l.tokens_of l.closed))
