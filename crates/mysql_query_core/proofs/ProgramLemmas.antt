-- The output of the program, from the parsed query.
use Rattle.std.proofs.Common.{◌≡◌, ◌⊎◌, ◌∷◌, ℕ, List, Ok, Err, inl, inr, sym, ap, ◌∙◌, subst}
use Rattle.std.specs.Prelude.{Bool, false, Result, IsErrAnd, alloc_error}
use Rattle.mysql_io.specs.declared.readers_and_writers.ReadError.{ReadError}
use Rattle.mysql_io.specs.declared.readers_and_writers.ReadError.TheVariants as read
use Rattle.mysql_named_params.specs.Tokens.{Token, IsTokens, text_of}
use Rattle.mysql_named_params.specs.Places.{names, with_marks, has_both, HasName, HasMark}
use Rattle.mysql_named_params.specs.Parsed.{Parsed, parsed}
use Rattle.mysql_query_core.specs.Program.{lines_of, names_output}
use Rattle.mysql_query_core.specs.RunErrors.{run_error_of_read}
use Rattle.mysql_query_core.specs.declared.run_error.RunError.{RunError}
use Rattle.mysql_query_core.specs.declared.run_error.RunError.TheVariants.{Read, Memory}
use Rattle.mysql_named_params.proofs.TokenListLemmas.{one_token_list}
use Rattle.mysql_binding.proofs.CauseLemmas.{has_both-not}

-- the lines of a parsed query are the output of `names`
pub names_output_is : (mode : Bool) (query text : List ℕ) (p : Parsed) (ts us : List Token) →
    IsTokens mode query ts → p ≡ parsed ts → IsTokens mode query us → (HasName us × HasMark us → ⊥) →
    text ≡ lines_of (p.query ∷ p.params) → names_output ts ≡ Ok text
names_output_is mode query text p ts us is e is' not_both text_is =
    let same : us ≡ ts = one_token_list mode query us ts is' is in
    let one : has_both ts ≡ false = has_both-not ts (subst (λ x. HasName x × HasMark x → ⊥) same not_both) in
    let lines : lines_of (text_of (with_marks ts) ∷ names ts) ≡ text = sym (text_is ∙ ap (λ (x : Parsed). lines_of (x.query ∷ x.params)) e) in
    rw one (ap Ok lines)

-- a run whose input can't be read is refused as `Read` or out of memory
pub read_refused : {A : Type 0} (r : Result A RunError) (error : ReadError) → IsErrAnd r (λ t. t ≡ run_error_of_read error)
    → (r ≡ Err Read) ⊎ (r ≡ Err (Memory alloc_error))
read_refused (Ok a) error same = absurd same
read_refused (Err t) read.Read same = inl (ap Err same)
read_refused (Err t) (read.Memory memory) same = inr (ap Err same)
