-- Each token, as a client reads it.
use Rattle.std.specs.Prelude.{Bool, not, codes}
use Rattle.std.proofs.Common.{◌≡◌, ◌⊎◌, ℕ, true, false, cond, ◌==◌, ◌&&◌, ◌||◌, List, [], ◌∷◌, ◌++◌, None, refl, sym, ap, ◌∙◌, subst, inl, inr, true≢false}
use Rattle.std.specs.List.{list_all}
use Rattle.std.specs.Str.{byte}
use Rattle.std.proofs.lemmas.Bool.{cases_Bool, and_parts, or_parts, eqb-true}
use Rattle.mysql_named_params.specs.Bytes.{asterisk, backquote, carriage_return, colon, dash, dollar, double_quote, hash, newline, plus, question_mark, single_quote, slash, space, exclamation_mark, is_name_byte, is_string_quote, is_extension, begins}
use Rattle.mysql_named_params.specs.Tokens.{Token, bytes_of, IsToken, IsStringTail, IsName, QuotedString, QuotedIdentifier, HashComment, DashComment, BlockComment, Name, Mark, Plain}
use Rattle.mysql_portable.specs.ServerTokens.{begins_special, holds_return}
use Rattle.mysql_portable.specs.Client.{holds_opener}
use Rattle.mysql_portable.specs.Quiet.{is_quiet}
use Rattle.mysql_portable.specs.Portable.{is_read_alike}
use Rattle.mysql_portable.specs.FoundInClient.{is_joined, begins_word, begins_statement, begins_line, escapes_newline, begins_delimiter_line, found_in_quotes, found_in_client}
use Rattle.mysql_portable.proofs.ClientLemmas.{opener_in_front}
use Rattle.mysql_portable.proofs.FrontLemmas.{quote_is}
use Rattle.mysql_client.specs.Outgoing.{Outgoing, is_space, is_empty, pass_on, pass_as_is, pass_with_next, send_if}
use Rattle.mysql_client.specs.ClientState.{Program, mysql, mariadb, is_mariadb, no_special, only_read, outside, in_comment, State, is_own_word, past, look_in, finds_word, hides_command, is_none, special_at, begins_slash_star}
use Rattle.mysql_client.specs.Sends.{step, is_return}
use Rattle.mysql_client.specs.SentStatements.{no_part, line_out, name_out, plain_out, opens_hint, byte_after, bytes_after, comment_after, gathered_after}
use Rattle.mysql_client.proofs.StepLemmas.{place, base, in_block, before, Fits, Arrived, going, over, differs, and_no, HasNoZero, no_zero_after}
use Rattle.mysql_client.proofs.EndLemmas.{Ends, closed_end, open_end, up_to_byte, UpToClose, up_to_close, begins_up_to_close}
use Rattle.mysql_client.proofs.QuotedLemmas.{inside, IsTame}
use Rattle.mysql_client.proofs.TextLemmas.{single_string, double_string, identifier_of, in_line_comment, line_of}
use Rattle.mysql_client.proofs.CommentLemmas.{block_of}
use Rattle.mysql_client.proofs.PlainStepLemmas.{IsPassed, place_step, outside_step, fresh_after, plain_of}
use Rattle.mysql_client.proofs.PlainFactLemmas.{found_not, no_command_at, plain_extension, passed}
use Rattle.mysql_client.proofs.QuietLemmas.{only_read_comment}
use Rattle.mysql_client.proofs.HintLemmas.{sign_of}

arrive : {s : State} {rest : List ℕ} (st ln fr : Bool) (o : Outgoing) → Ends s rest fr o → Fits st ln fr false →
    Arrived s rest st ln (record { after = false; part = no_part; out = o })
arrive st ln fr o (closed_end e) k = going fr e refl k
arrive st ln fr o (open_end n g e) k = over n g e

-- no statement begins after the token
pub fits_no_statement : (st ln : Bool) → st ≡ false → Fits st ln false false
fits_no_statement st ln e = record {
  fresh_is = λ x. absurd (true≢false (sym x));
  line_is = λ x. absurd (true≢false (sym x ∙ e));
  after_is = λ x. absurd (true≢false (sym x));
}

pub fits_none : (ln : Bool) → Fits false ln false false
fits_none ln = fits_no_statement false ln refl

-- after a comment
fits_comment : (st fr : Bool) → (fr ≡ true → st ≡ true) → Fits st true fr false
fits_comment st fr k = record { fresh_is = k; line_is = λ x. refl; after_is = λ x. absurd (true≢false (sym x)) }

-- ---- strings and identifiers

tame_of : (tail rest : List ℕ) → found_in_quotes tail ≡ None → HasNoZero (tail ++ rest) → IsTame tail rest
tame_of tail rest h z =
    let e = found_not (escapes_newline tail) _ _ h in
    let d = found_not (begins_delimiter_line tail) _ _ e.1 in
    record { escape = e.0; line = d.0; zero = z }

open_single : (p : Program) (mode a f : Bool) (rest : List ℕ) (o : Outgoing) →
    step p mode (base (place a) f o) single_quote rest ≡ inside single_quote (pass_on single_quote rest (send_if a o))
open_single p mode false f rest o = refl
open_single p mode true f rest o = refl

open_double : (p : Program) (mode a f : Bool) (rest : List ℕ) (o : Outgoing) →
    step p mode (base (place a) f o) double_quote rest ≡ inside double_quote (pass_on double_quote rest (send_if a o))
open_double p mode false f rest o = refl
open_double p mode true f rest o = refl

open_back : (p : Program) (mode a f : Bool) (rest : List ℕ) (o : Outgoing) →
    step p mode (base (place a) f o) backquote rest ≡ inside backquote (pass_on backquote rest (send_if a o))
open_back p mode false f rest o = refl
open_back p mode true f rest o = refl

string_token : (p : Program) (mode a f : Bool) (q : ℕ) (tail rest : List ℕ) (o : Outgoing) → is_string_quote q ≡ true →
    IsStringTail mode q tail rest → IsTame tail rest →
    Ends (before p mode rest (base (place a) f o) (q ∷ tail)) rest false (line_out false tail rest (pass_on q (tail ++ rest) (send_if a o)))
string_token p mode a f q tail rest o h s t = go (quote_is q h)
  where
    go : (q ≡ single_quote) ⊎ (q ≡ double_quote) → Ends (before p mode rest (base (place a) f o) (q ∷ tail)) rest false (line_out false tail rest (pass_on q (tail ++ rest) (send_if a o)))
    go (inl e) =
        subst (λ x. Ends (before p mode rest (base (place a) f o) (x ∷ tail)) rest false (line_out false tail rest (pass_on x (tail ++ rest) (send_if a o)))) (sym e)
        (subst (λ v. Ends (before p mode rest v tail) rest false (line_out false tail rest (pass_on single_quote (tail ++ rest) (send_if a o)))) (sym (open_single p mode a f (tail ++ rest) o))
        (single_string p mode tail rest _ (subst (λ x. IsStringTail mode x tail rest) e s) t))
    go (inr e) =
        subst (λ x. Ends (before p mode rest (base (place a) f o) (x ∷ tail)) rest false (line_out false tail rest (pass_on x (tail ++ rest) (send_if a o)))) (sym e)
        (subst (λ v. Ends (before p mode rest v tail) rest false (line_out false tail rest (pass_on double_quote (tail ++ rest) (send_if a o)))) (sym (open_double p mode a f (tail ++ rest) o))
        (double_string p mode tail rest _ (subst (λ x. IsStringTail mode x tail rest) e s) t))

-- ---- comments of one line

open_hash : (p : Program) (mode a f : Bool) (rest : List ℕ) (o : Outgoing) →
    step p mode (base (place a) f o) hash rest ≡ in_line_comment (a || is_empty o.gathered) (cond a f (f && is_empty o.gathered)) (pass_as_is hash o)
open_hash p mode false f rest o = refl
open_hash p mode true f rest o = refl

open_dashes : (p : Program) (mode a f : Bool) (rest : List ℕ) (o : Outgoing) →
    step p mode (base (place a) f o) dash (dash ∷ space ∷ rest) ≡ in_line_comment (a || is_empty o.gathered) (cond a f (f && is_empty o.gathered)) (pass_as_is dash o)
open_dashes p mode false f rest o = refl
open_dashes p mode true f rest o = refl

still_fresh : (a f : Bool) (x : Bool) → cond a f (f && x) ≡ true → f ≡ true
still_fresh true f x e = e
still_fresh false f x e = (and_parts f x e).0

-- ---- block comments

-- no special comment begins, to the client
pub special_none : (p : Program) (tail rest : List ℕ) → begins is_extension (tail ++ rest) ≡ false → UpToClose tail rest →
    (begins_special tail && is_mariadb p) ≡ false → is_none (special_at p (tail ++ rest)) ≡ true
special_none p [] rest e u h = ap (λ x. is_none (special_at p x)) u
special_none p (b ∷ bs) rest e u h =
    let ext = or_parts (b == exclamation_mark) (b == plus) e in
    let mark : ((b == byte "M" && begins (λ c. c == exclamation_mark) bs) && is_mariadb p) ≡ false =
    sym (ap (λ x. (x || (b == byte "M" && begins (λ c. c == exclamation_mark) bs)) && is_mariadb p) e) ∙ h in
    rw (ext.0, ext.1) (go bs mark u)
  where
    go : (bs : List ℕ) → ((b == byte "M" && begins (λ c. c == exclamation_mark) bs) && is_mariadb p) ≡ false → UpToClose (b ∷ bs) rest →
        is_none (cond ((b == byte "M" && begins (λ c. c == exclamation_mark) (bs ++ rest)) && is_mariadb p) only_read no_special) ≡ true
    go [] m u = rw (begins_up_to_close (λ c. c == exclamation_mark) [] rest (u.1 (and_no (b == asterisk))), m) refl
    go (c ∷ cs) m u = rw m refl

open_block : (p : Program) (mode a f : Bool) (rest : List ℕ) (o : Outgoing) → is_none (special_at p rest) ≡ true →
    ((is_own_word p slash (asterisk ∷ rest) || hides_command p slash (asterisk ∷ rest)) && f) ≡ false →
    step p mode (step p mode (base (place a) f o) slash (asterisk ∷ rest)) asterisk rest
    ≡ in_block in_comment false false (pass_on asterisk rest (pass_with_next slash (send_if a o)))
open_block p mode false f rest o e h = rw (h, e) refl
open_block p mode true f rest o e h = rw (h, e) refl

-- ---- names

name_passed : (p : Program) (b : ℕ) (rest : List ℕ) → is_name_byte b ≡ true → IsPassed p false b rest
name_passed p b rest h = record {
  own = and_no (is_own_word p b rest || hides_command p b rest);
  no_slash = rw (differs b slash is_name_byte h refl) refl;
  no_quote = rw (differs b single_quote is_name_byte h refl, differs b double_quote is_name_byte h refl, differs b backquote is_name_byte h refl) refl;
  no_line = λ n. rw (differs b hash is_name_byte h refl, differs b dash is_name_byte h refl) refl;
  no_follow = rw (differs b hash is_name_byte h refl, differs b dash is_name_byte h refl) refl;
  no_tag = rw (differs b dollar is_name_byte h refl) refl;
  null_there = λ t. absurd (true≢false (sym t ∙ differs b (byte "\\") is_name_byte h refl));
}

name_byte : (p : Program) (mode : Bool) (b : ℕ) (rest : List ℕ) (o : Outgoing) → is_name_byte b ≡ true →
    step p mode (base outside false o) b rest ≡ base outside false (pass_on b rest o)
name_byte p mode b rest o h =
    let r : is_return b rest ≡ false = rw (differs b carriage_return is_name_byte h refl) refl in
    let fine = name_passed p b rest h in
    let fresh : fresh_after false b rest ≡ false = rw (differs b (byte "\\") is_name_byte h refl, differs b dash is_name_byte h refl) (and_no (is_space b)) in
    let out_is : plain_out b rest o ≡ pass_on b rest o = rw (differs b (byte "\\") is_name_byte h refl, differs b dash is_name_byte h refl) refl in
    place_step p mode false false b rest o r (differs b newline is_name_byte h refl) fine.no_follow (and_no (is_space b))
    ∙ (outside_step p false b rest o fine (differs b (byte ";") is_name_byte h refl)
    ∙ (ap (λ x. base outside x (plain_out b rest o)) fresh ∙ ap (base outside false) out_is))

name_of : (p : Program) (mode : Bool) (name rest : List ℕ) (o : Outgoing) → list_all is_name_byte name ≡ true →
    before p mode rest (base outside false o) name ≡ base outside false (name_out name rest o)
name_of p mode [] rest o h = refl
name_of p mode (b ∷ bs) rest o h =
    let parts = and_parts (is_name_byte b) (list_all is_name_byte bs) h in
    ap (λ s. before p mode rest s bs) (name_byte p mode b (bs ++ rest) o parts.0) ∙ name_of p mode bs rest (pass_on b (bs ++ rest) o) parts.1

open_colon : (p : Program) (mode a f : Bool) (rest : List ℕ) (o : Outgoing) →
    step p mode (base (place a) f o) colon rest ≡ base outside false (pass_on colon rest (send_if a o))
open_colon p mode false f rest o = refl
open_colon p mode true f rest o = refl

all_name_bytes : (name : List ℕ) → IsName name → true ≡ list_all is_name_byte name
all_name_bytes [] h = absurd h
all_name_bytes (b ∷ bs) h = rw (h.0, h.1) refl

mark_of : (p : Program) (mode a f : Bool) (rest : List ℕ) (o : Outgoing) →
    ((is_own_word p question_mark rest || hides_command p question_mark rest) && f) ≡ false →
    step p mode (base (place a) f o) question_mark rest ≡ base outside false (pass_on question_mark rest (send_if a o))
mark_of p mode false f rest o own = rw own refl
mark_of p mode true f rest o own = rw own refl

-- ---- each token

-- the word `delimiter` isn't found ahead, so no command begins at a comment
no_command : (p : Program) (f : Bool) (rest : List ℕ) → (f ≡ true → finds_word mysql past (slash ∷ asterisk ∷ rest) ≡ false) →
    ((is_own_word p slash (asterisk ∷ rest) || hides_command p slash (asterisk ∷ rest)) && f) ≡ false
no_command p false rest h = and_no (is_own_word p slash (asterisk ∷ rest) || hides_command p slash (asterisk ∷ rest))
no_command mariadb true rest h = rw (and_no (finds_word mariadb (look_in mariadb (asterisk ∷ rest)) (asterisk ∷ rest))) refl
no_command mysql true rest h =
    let none : finds_word mysql (look_in mysql (asterisk ∷ rest)) (asterisk ∷ rest) ≡ false = h refl in
    rw none refl

-- a plain `/` of a special comment's sign
sign_token : (p : Program) (mode st ln a f : Bool) (b : ℕ) (rest : List ℕ) (o : Outgoing) → IsToken mode (Plain b) rest →
    is_read_alike (Plain b) rest ≡ true → begins_slash_star (b ∷ rest) ≡ true →
    (f ≡ true → finds_word mysql past (b ∷ rest) ≡ false) →
    Arrived (step p mode (base (place a) f o) b rest) rest (begins_statement st (Plain b)) (begins_line ln (Plain b))
    (byte_after p no_part b rest (record { after = a; part = no_part; out = o }))
sign_token p mode st ln a f b [] o h alike s look = absurd (true≢false (sym (and_parts (b == slash) false s).1))
sign_token p mode st ln a f b (c ∷ text) o h alike s look =
    let both = and_parts (b == slash) (c == asterisk) s in
    let slash_is : b ≡ slash = eqb-true b slash both.0 in
    let star_is : c ≡ asterisk = eqb-true c asterisk both.1 in
    subst (λ x. Arrived (step p mode (base (place a) f o) x (c ∷ text)) (c ∷ text) (begins_statement st (Plain x)) (begins_line ln (Plain x)) (byte_after p no_part x (c ∷ text) (record { after = a; part = no_part; out = o }))) (sym slash_is)
    (subst (λ x. Arrived (step p mode (base (place a) f o) slash (x ∷ text)) (x ∷ text) false true (byte_after p no_part slash (x ∷ text) (record { after = a; part = no_part; out = o }))) (sym star_is)
    (go (subst (λ x. IsToken mode (Plain x) (asterisk ∷ text)) slash_is (subst (λ x. IsToken mode (Plain b) (x ∷ text)) star_is h))
    (subst (λ x. is_read_alike (Plain x) (asterisk ∷ text) ≡ true) slash_is (subst (λ x. is_read_alike (Plain b) (x ∷ text) ≡ true) star_is alike))
    (subst (λ x. f ≡ true → finds_word mysql past (x ∷ asterisk ∷ text) ≡ false) slash_is (subst (λ x. f ≡ true → finds_word mysql past (b ∷ x ∷ text) ≡ false) star_is look))))
  where
    go : IsToken mode (Plain slash) (asterisk ∷ text) → is_read_alike (Plain slash) (asterisk ∷ text) ≡ true → (f ≡ true → finds_word mysql past (slash ∷ asterisk ∷ text) ≡ false) →
        Arrived (step p mode (base (place a) f o) slash (asterisk ∷ text)) (asterisk ∷ text) false true (byte_after p no_part slash (asterisk ∷ text) (record { after = a; part = no_part; out = o }))
    go h alike look =
        let quiet = and_parts (begins_special text) (is_quiet text) alike in
        sign_of p mode a f text o (plain_extension mode text h) quiet.1 (no_command p f text look)

pub token_of : (p : Program) (mode st ln a f : Bool) (t : Token) (rest : List ℕ) (o : Outgoing) → Fits st ln f a →
    IsToken mode t rest → is_read_alike t rest ≡ true → found_in_client st ln t rest ≡ None →
    HasNoZero (bytes_of t ++ rest) →
    (begins_line ln t ≡ true → begins_word (codes "delimiter") rest ≡ false) →
    (f ≡ true → finds_word mysql past (bytes_of t ++ rest) ≡ false) →
    Arrived (before p mode rest (base (place a) f o) (bytes_of t)) rest (begins_statement st t) (begins_line ln t)
    (gathered_after p t rest (record { after = a; part = no_part; out = o }))
token_of p mode st ln a f (QuotedString q tail) rest o k h alike found z w look =
    let inner = (found_not _ _ _ found).1 in
    arrive false false false _ (string_token p mode a f q tail rest o h.0 h.1 (tame_of tail rest inner (no_zero_after q (tail ++ rest) z))) (fits_none false)
token_of p mode st ln a f (QuotedIdentifier tail) rest o k h alike found z w look =
    let inner = (found_not _ _ _ found).1 in
    subst (λ v. Arrived (before p mode rest v tail) rest false false (gathered_after p (QuotedIdentifier tail) rest (record { after = a; part = no_part; out = o }))) (sym (open_back p mode a f (tail ++ rest) o))
    (arrive false false false _ (identifier_of p mode tail rest (pass_on backquote (tail ++ rest) (send_if a o)) (up_to_byte backquote tail rest h) (tame_of tail rest inner (no_zero_after backquote (tail ++ rest) z))) (fits_none false))
token_of p mode st ln a f (HashComment tail) rest o k h alike found z w look =
    subst (λ v. Arrived (before p mode rest v tail) rest st true (gathered_after p (HashComment tail) rest (record { after = a; part = no_part; out = o }))) (sym (open_hash p mode a f (tail ++ rest) o))
    (arrive st true (cond a f (f && is_empty o.gathered)) _ (line_of p mode (a || is_empty o.gathered) (cond a f (f && is_empty o.gathered)) tail rest (pass_as_is hash o) (up_to_byte newline tail rest h) (no_zero_after hash (tail ++ rest) z) (w refl)) (fits_comment st _ (λ x. k.fresh_is (still_fresh a f (is_empty o.gathered) x))))
token_of p mode st ln a f (DashComment gap tail) rest o k h alike found z w look =
    let gap_is : gap ≡ space = eqb-true gap space (and_parts (gap == space) (not (holds_return tail)) alike).0 in
    subst (λ g. Arrived (before p mode rest (base (place a) f o) (dash ∷ dash ∷ g ∷ tail)) rest st true (gathered_after p (DashComment g tail) rest (record { after = a; part = no_part; out = o }))) (sym gap_is)
    (subst (λ v. Arrived (before p mode rest v (dash ∷ space ∷ tail)) rest st true (gathered_after p (DashComment space tail) rest (record { after = a; part = no_part; out = o }))) (sym (open_dashes p mode a f (tail ++ rest) o))
    (arrive st true (cond a f (f && is_empty o.gathered)) _ (line_of p mode (a || is_empty o.gathered) (cond a f (f && is_empty o.gathered)) (dash ∷ space ∷ tail) rest (pass_as_is dash o)
    (λ e. absurd (true≢false (sym e)), λ e. (λ e. absurd (true≢false (sym e)), λ e. up_to_byte newline tail rest h.2))
    (zero_after gap_is) (w refl)) (fits_comment st _ (λ x. k.fresh_is (still_fresh a f (is_empty o.gathered) x)))))
  where
    zero_after : gap ≡ space → HasNoZero (dash ∷ space ∷ (tail ++ rest))
    zero_after e = no_zero_after dash (dash ∷ space ∷ (tail ++ rest)) (subst (λ g. HasNoZero (dash ∷ dash ∷ g ∷ (tail ++ rest))) e z)
token_of p mode st ln a f (BlockComment tail) rest o k h alike found z w look =
    let inner = (found_not _ _ _ found).1 in
    let holds = found_not (holds_opener tail) _ _ inner in
    let up = up_to_close tail rest h.1 in
    let zero = no_zero_after asterisk (tail ++ rest) (no_zero_after slash (asterisk ∷ (tail ++ rest)) z) in
    elim (cases_Bool (begins_special tail && is_mariadb p)) [
      | inr n ↦
          let none = special_none p tail rest h.0 up n in
          rw n
          (subst (λ v. Arrived (before p mode rest v tail) rest st true (comment_after p tail rest (record { after = a; part = no_part; out = o }))) (sym (open_block p mode a f (tail ++ rest) o none (no_command p f (tail ++ rest) look)))
          (arrive st true false _ (block_of p mode false false tail rest (pass_on asterisk (tail ++ rest) (pass_with_next slash (send_if a o))) up zero (opener_in_front tail rest h.1 ∙ holds.0))
          (fits_comment st false (λ x. absurd (true≢false (sym x))))))
      | inl y ↦ rw y (only_read p y up zero ((found_not (begins_special tail && begins_delimiter_line tail) _ _ (found_not (begins is_joined rest) _ _ holds.1).1).0))
    ]
  where
    only_read : (p : Program) → (begins_special tail && is_mariadb p) ≡ true → UpToClose tail rest → HasNoZero (tail ++ rest) →
        (begins_special tail && begins_delimiter_line tail) ≡ false →
        Arrived (before p mode rest (base (place a) f o) (slash ∷ asterisk ∷ tail)) rest st true (bytes_after (slash ∷ asterisk ∷ tail) rest (record { after = a; part = no_part; out = o }))
    only_read mysql y u z d = absurd (true≢false (sym (and_parts (begins_special tail) false y).1))
    only_read mariadb y u z d =
        let special = (and_parts (begins_special tail) true y).0 in
        let quiet : is_quiet (tail ++ rest) ≡ true = sym (ap (λ x. not x || is_quiet (tail ++ rest)) special) ∙ alike in
        let line : begins_delimiter_line tail ≡ false = sym (ap (λ x. x && begins_delimiter_line tail) special) ∙ d in
        let all = only_read_comment mode a f tail rest o special h.0 u quiet z line in
        subst (Arrived (before mariadb mode rest (base (place a) f o) (slash ∷ asterisk ∷ tail)) rest st true) (sym all.2)
        (going false all.1 refl (fits_comment st false (λ x. absurd (true≢false (sym x)))))
token_of p mode st ln a f (Name name) rest o k h alike found z w look =
    going false (ap (λ s. before p mode rest s name) (open_colon p mode a f (name ++ rest) o) ∙ name_of p mode name rest (pass_on colon (name ++ rest) (send_if a o)) (sym (all_name_bytes name h.0))) refl (fits_none false)
token_of p mode st ln a f Mark rest o k h alike found z w look =
    going false (mark_of p mode a f rest o (no_command_at p st ln f question_mark rest k.fresh_is k.line_is refl found)) refl (fits_none false)
token_of p mode st ln a f (Plain b) rest o k h alike found z w look =
    let inner = (found_not _ _ _ found).1 in
    elim (cases_Bool (begins_slash_star (b ∷ rest))) [
      | inl s ↦ sign_token p mode st ln a f b rest o h alike s look
      | inr n ↦
          let none : opens_hint p b rest ≡ false = rw n refl in
          rw none (plain_of p mode st ln a f b rest o k (passed p mode st ln f b rest h alike inner n k.fresh_is k.line_is) (no_zero_after b rest z) w)
    ]
