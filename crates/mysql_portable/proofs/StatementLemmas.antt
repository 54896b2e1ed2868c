-- The statements of a query, as every reader of it cuts them.
use Rattle.std.specs.Prelude.{Bool}
use Rattle.std.proofs.Common.{◌≡◌, ℕ, suc, true, false, cond, ◌==◌, ◌&&◌, List, [], ◌∷◌, ◌++◌, length, refl, sym, ap, ◌∙◌}
use Rattle.std.specs.Str.{byte}
use Rattle.std.proofs.lemmas.Bool.{or_parts, not-true}
use Rattle.mysql_named_params.specs.Bytes.{backquote, hash, dash, newline, slash, asterisk, is_string_quote, begins}
use Rattle.mysql_named_params.specs.Tokens.{Token, text_of, QuotedString, QuotedIdentifier, HashComment, DashComment, BlockComment, Name, Mark, Plain}
use Rattle.mysql_portable.specs.Server.{begins_place, begins_own}
use Rattle.mysql_portable.specs.Quiet.{may_begin_something, is_for_client, plain_then}
use Rattle.mysql_portable.specs.Portable.{IsReadAs, read_all, read_same, read_empty_comment, read_skipped, read_executed}
use Rattle.mysql_portable.specs.Statements.{in_first, statements}
use Rattle.mysql_portable.proofs.QuietLemmas.{BeginNothing, each_begins_nothing}

pub length-in_first : (t : Token) (lists : List (List Token)) → length (in_first t lists) ≡ length lists
length-in_first t [] = refl
length-in_first t (first ∷ more) = refl

-- a byte that begins nothing is no `;`
no_semicolon : (b : ℕ) (rest : List ℕ) → may_begin_something b rest ≡ false → (b == byte ";") ≡ false
no_semicolon b rest h =
    let p1 = or_parts (is_string_quote b) _ h in
    let p2 = or_parts (b == backquote) _ p1.1 in
    let p3 = or_parts (b == hash) _ p2.1 in
    let p4 = or_parts (b == dash) _ p3.1 in
    let p5 = or_parts (b == slash && begins (λ c. c == asterisk) rest) _ p4.1 in
    let p6 = or_parts (begins_place (b ∷ rest)) _ p5.1 in
    let p7 = or_parts (begins_own b rest) _ p6.1 in
    let p8 = or_parts (is_for_client b) _ p7.1 in
    (or_parts (b == byte ";") _ p8.0).0

-- a quiet text cuts nothing
row_count : (tail rest : List ℕ) (ts : List Token) → BeginNothing rest tail →
    length (statements (plain_then ts tail)) ≡ length (statements ts)
row_count [] rest ts q = refl
row_count (b ∷ bs) rest ts q =
    rw (no_semicolon b (bs ++ rest) (not-true _ q.0)) (length-in_first (Plain b) (statements (plain_then ts bs)) ∙ row_count bs rest ts q.1)

one_more : (b : ℕ) (ts us : List Token) → length (statements ts) ≡ length (statements us) →
    length (statements (Plain b ∷ ts)) ≡ length (statements (Plain b ∷ us))
one_more b ts us e = go (b == byte ";")
  where
    go : (s : Bool) → length (cond s ([] ∷ statements ts) (in_first (Plain b) (statements ts))) ≡ length (cond s ([] ∷ statements us) (in_first (Plain b) (statements us)))
    go true = ap suc e
    go false = length-in_first (Plain b) (statements ts) ∙ (e ∙ sym (length-in_first (Plain b) (statements us)))

both_first : (t : Token) (ts us : List Token) → length (statements ts) ≡ length (statements us) →
    length (in_first t (statements ts)) ≡ length (in_first t (statements us))
both_first t ts us e = length-in_first t (statements ts) ∙ (e ∙ sym (length-in_first t (statements us)))

opened_count : (ts : List Token) → length (statements (Plain slash ∷ Plain asterisk ∷ ts)) ≡ length (statements ts)
opened_count ts = length-in_first (Plain slash) (in_first (Plain asterisk) (statements ts)) ∙ length-in_first (Plain asterisk) (statements ts)

pub read_statements : {ts us : List Token} → IsReadAs ts us → length (statements us) ≡ length (statements ts)
read_statements read_all = refl
read_statements (read_same {t = Plain b} {ts = ts} {us = us} r) = one_more b us ts (read_statements r)
read_statements (read_same {t = QuotedString quote tail} {ts = ts} {us = us} r) = both_first (QuotedString quote tail) us ts (read_statements r)
read_statements (read_same {t = QuotedIdentifier tail} {ts = ts} {us = us} r) = both_first (QuotedIdentifier tail) us ts (read_statements r)
read_statements (read_same {t = HashComment tail} {ts = ts} {us = us} r) = both_first (HashComment tail) us ts (read_statements r)
read_statements (read_same {t = DashComment gap tail} {ts = ts} {us = us} r) = both_first (DashComment gap tail) us ts (read_statements r)
read_statements (read_same {t = BlockComment tail} {ts = ts} {us = us} r) = both_first (BlockComment tail) us ts (read_statements r)
read_statements (read_same {t = Name name} {ts = ts} {us = us} r) = both_first (Name name) us ts (read_statements r)
read_statements (read_same {t = Mark} {ts = ts} {us = us} r) = both_first Mark us ts (read_statements r)
read_statements (read_empty_comment {ts = ts} {us = us} r) =
    length-in_first (DashComment newline []) (statements us) ∙ (read_statements r ∙ sym (length-in_first (Plain dash) (in_first (Plain dash) (in_first (Plain newline) (statements ts))) ∙ (length-in_first (Plain dash) (in_first (Plain newline) (statements ts)) ∙ length-in_first (Plain newline) (statements ts))))
read_statements (read_skipped {ts = ts} {us = us} tail q r) =
    length-in_first (BlockComment tail) (statements us) ∙ (read_statements r ∙ sym (opened_count (plain_then ts tail) ∙ row_count tail (text_of ts) ts (each_begins_nothing tail (text_of ts) q.ends q.quiet)))
read_statements (read_executed {ts = ts} {us = us} tail q r) =
    (opened_count (plain_then us tail) ∙ row_count tail (text_of ts) us (each_begins_nothing tail (text_of ts) q.ends q.quiet)) ∙ (read_statements r ∙ sym (length-in_first (BlockComment tail) (statements ts)))
