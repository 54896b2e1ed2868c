-- MySQL and MariaDB are honest, and decide about a quiet comment by the comment only. They read
-- some texts differently from the grammar and from each other.
use Rattle.std.specs.Prelude.{Bool, nat_le, unwrap_or, codes}
use Rattle.std.proofs.Common.{◌≡◌, ℕ, zero, suc, ◌+◌, ◌<◌, ◌≤◌, true, false, cond, not, ◌==◌, ◌&&◌, List, [], ◌∷◌, ◌++◌, length, take, drop, Option, Some, None, refl, sym, ap, ◌∙◌, subst, arith, drop_at, length-append}
use Rattle.std.specs.Char.{is_ascii_digit}
use Rattle.std.specs.List.{prefix_len, take_while}
use Rattle.std.specs.Str.{byte}
use Rattle.std.specs.Str.Parse.{digits_value}
use Rattle.std.proofs.lemmas.Bool.{lt-leb}
use Rattle.std.proofs.Math.Dec.{leb-zero}
use Rattle.mysql_named_params.specs.Bytes.{asterisk, dollar, exclamation_mark, slash, IsUpTo, up_to_word, up_to_end}
use Rattle.mysql_named_params.specs.Tokens.{Token, bytes_of, BlockComment, QuotedString, Plain}
use Rattle.mysql_named_params.proofs.CutLemmas.{token_length}
use Rattle.mysql_named_params.proofs.TokenEndLemmas.{up_to_gives}
use Rattle.mysql_portable.specs.Server.{Server, Block, executed, comment, grammar, usual_block, IsTokenOn, IsReadOn}
use Rattle.mysql_portable.specs.Quiet.{reads_or_skips, IsHonest, DecidesWithin}
use Rattle.mysql_portable.specs.KnownServers.{version_of, from_version, is_of_mysql, mysql, mysql_special, mariadb, mariadb_special, Reads, all_plain}
use Rattle.mysql_portable.proofs.ServerTokenLemmas.{not_plain_on, plain_on}
use Rattle.mysql_portable.proofs.GrammarLemmas.{not_plain_found_on, as_token}

-- ---- honest

by_version : (first version : ℕ) → reads_or_skips (from_version first version) ≡ true
by_version first version = go (nat_le first version)
  where
    go : (c : Bool) → reads_or_skips (cond c executed comment) ≡ true
    go true = refl
    go false = refl

or_else : (c : Bool) (a b : Block) → reads_or_skips a ≡ true → reads_or_skips b ≡ true → reads_or_skips (cond c a b) ≡ true
or_else true a b h k = h
or_else false a b h k = k

pub mysql_honest : (version : ℕ) → IsHonest (mysql version)
mysql_honest version [] h = refl
mysql_honest version (b ∷ text) h =
    or_else (b == exclamation_mark) (from_version (version_of text) version) comment (by_version (version_of text) version) refl

pub mariadb_honest : (version : ℕ) → IsHonest (mariadb version)
mariadb_honest version [] h = refl
mariadb_honest version (b ∷ text) h =
    or_else (b == byte "M") (from_version (version_of (drop 1 text)) version) _ (by_version (version_of (drop 1 text)) version)
    (or_else (b == exclamation_mark && not (is_of_mysql (version_of text))) (from_version (version_of text) version) comment (by_version (version_of text) version) refl)

-- ---- by the comment only

one_more : (c : Bool) (k b : ℕ) (bs : List ℕ) → take (cond c (1 + k) 0) (b ∷ bs) ≡ cond c (b ∷ take k bs) []
one_more true k b bs = let more : 1 + k ≡ suc k = omega arith in ap (λ n. take n (b ∷ bs)) more
one_more false k b bs = refl

digits_after : (b : ℕ) (bs : List ℕ) →
    take_while is_ascii_digit (b ∷ bs) ≡ cond (is_ascii_digit b) (b ∷ take_while is_ascii_digit bs) []
digits_after b bs = one_more (is_ascii_digit b) (prefix_len is_ascii_digit bs) b bs

-- the end of a comment ends the digits before it
digits_before : (n : ℕ) (body rest other : List ℕ) →
    take_while is_ascii_digit (take n ((body ++ asterisk ∷ slash ∷ []) ++ rest))
    ≡ take_while is_ascii_digit (take n ((body ++ asterisk ∷ slash ∷ []) ++ other))
digits_before zero body rest other = refl
digits_before (suc n) [] rest other = refl
digits_before (suc n) (b ∷ bs) rest other =
    digits_after b (take n ((bs ++ asterisk ∷ slash ∷ []) ++ rest))
    ∙ (ap (λ ds. cond (is_ascii_digit b) (b ∷ ds) []) (digits_before n bs rest other)
    ∙ sym (digits_after b (take n ((bs ++ asterisk ∷ slash ∷ []) ++ other))))

version_before : (body rest other : List ℕ) →
    version_of ((body ++ asterisk ∷ slash ∷ []) ++ rest) ≡ version_of ((body ++ asterisk ∷ slash ∷ []) ++ other)
version_before body rest other =
    ap (λ ds. cond (nat_le 5 (length ds)) (digits_value 10 ds) 0) (digits_before 6 body rest other)

mysql_before : (version : ℕ) (body rest other : List ℕ) →
    mysql_special version ((body ++ asterisk ∷ slash ∷ []) ++ rest) ≡ mysql_special version ((body ++ asterisk ∷ slash ∷ []) ++ other)
mysql_before version [] rest other = refl
mysql_before version (b ∷ bs) rest other =
    ap (λ n. cond (b == exclamation_mark) (from_version n version) comment) (version_before bs rest other)

-- the version after the `!` of `M!`
version_after : (body rest other : List ℕ) →
    version_of (drop 1 ((body ++ asterisk ∷ slash ∷ []) ++ rest)) ≡ version_of (drop 1 ((body ++ asterisk ∷ slash ∷ []) ++ other))
version_after [] rest other = refl
version_after (b ∷ bs) rest other = version_before bs rest other

mariadb_before : (version : ℕ) (body rest other : List ℕ) →
    mariadb_special version ((body ++ asterisk ∷ slash ∷ []) ++ rest) ≡ mariadb_special version ((body ++ asterisk ∷ slash ∷ []) ++ other)
mariadb_before version [] rest other = refl
mariadb_before version (b ∷ bs) rest other =
    ap (λ n. cond (b == byte "M") (from_version n version)
    (cond (b == exclamation_mark && not (is_of_mysql (version_of ((bs ++ asterisk ∷ slash ∷ []) ++ rest)))) (from_version (version_of ((bs ++ asterisk ∷ slash ∷ []) ++ rest)) version) comment)) (version_after bs rest other)
    ∙ ap (λ n. cond (b == byte "M") (from_version (version_of (drop 1 ((bs ++ asterisk ∷ slash ∷ []) ++ other))) version)
    (cond (b == exclamation_mark && not (is_of_mysql n)) (from_version n version) comment)) (version_before bs rest other)

-- a quiet comment is closed, so a fact about the text before `*/` is a fact about it
closed : (special : List ℕ → Block) (tail rest other : List ℕ) →
    ((body : List ℕ) → special ((body ++ asterisk ∷ slash ∷ []) ++ rest) ≡ special ((body ++ asterisk ∷ slash ∷ []) ++ other)) →
    IsUpTo (asterisk ∷ slash ∷ []) tail rest → IsUpTo (asterisk ∷ slash ∷ []) tail other →
    special (tail ++ rest) ≡ special (tail ++ other)
closed special tail rest other before (up_to_word body e once) u = subst (λ x. special (x ++ rest) ≡ special (x ++ other)) e (before body)
closed special tail rest other before (up_to_end lacks nil) (up_to_word body e once) = subst (λ x. special (x ++ rest) ≡ special (x ++ other)) e (before body)
closed special tail rest other before (up_to_end lacks nil) (up_to_end lacks' nil') = ap (λ x. special (tail ++ x)) (nil ∙ sym nil')

pub mysql_decides : (version : ℕ) → DecidesWithin (mysql version)
mysql_decides version tail rest other q o =
    closed (mysql_special version) tail rest other (λ body. mysql_before version body rest other) q.ends o.ends

pub mariadb_decides : (version : ℕ) → DecidesWithin (mariadb version)
mariadb_decides version tail rest other q o =
    closed (mariadb_special version) tail rest other (λ body. mariadb_before version body rest other) q.ends o.ends

-- ---- the tokens of a constant text on a server, computed

abbrev token_on : Server → Bool → ℕ → List ℕ → Token
token_on server mode b bs = unwrap_or (not_plain_on server mode (b ∷ bs)) (Plain b)

-- the tokens of the text, at most as many as the list before it has items
abbrev read_within : Server → Bool → List ℕ → List ℕ → List Token
read_within server mode [] text = []
read_within server mode (item ∷ items) [] = []
read_within server mode (item ∷ items) (b ∷ bs) =
    token_on server mode b bs
    ∷ read_within server mode items (drop (length (bytes_of (token_on server mode b bs))) (b ∷ bs))

token_right : (server : Server) (mode : Bool) (b : ℕ) (bs : List ℕ) → (after : List ℕ)
    × (bytes_of (token_on server mode b bs) ++ after ≡ b ∷ bs) × IsTokenOn server mode (token_on server mode b bs) after
token_right server mode b bs = of_search (not_plain_on server mode (b ∷ bs)) refl
  where
    of_search : (found : Option Token) → not_plain_on server mode (b ∷ bs) ≡ found → (after : List ℕ)
        × (bytes_of (unwrap_or found (Plain b)) ++ after ≡ b ∷ bs)
        × IsTokenOn server mode (unwrap_or found (Plain b)) after
    of_search None e = (bs, refl, plain_on server mode b bs e)
    of_search (Some t) e =
        let f = not_plain_found_on server mode (b ∷ bs) t e in
        (f.0, f.2, as_token server mode t f.0 f.1)

within_right : (server : Server) (mode : Bool) (items text : List ℕ) → length text ≤ length items →
    IsReadOn server mode text (read_within server mode items text)
within_right server mode [] [] le = record { text = refl; each = tt }
within_right server mode [] (b ∷ bs) le = absurd (omega arith)
within_right server mode (item ∷ items) [] le = record { text = refl; each = tt }
within_right server mode (item ∷ items) (b ∷ bs) le =
    let t : Token = token_on server mode b bs in
    let first = token_right server mode b bs in
    let after : drop (length (bytes_of t)) (b ∷ bs) ≡ first.0 = ap (drop (length (bytes_of t))) (sym first.1) ∙ drop_at (bytes_of t) first.0 (length (bytes_of t)) refl in
    let lengths : length (bytes_of t) + length first.0 ≡ length (b ∷ bs) = sym (length-append (bytes_of t) first.0) ∙ ap length first.1 in
    let rest = within_right server mode items first.0 (omega (arith, lengths, token_length t)) in
    rw after (record {
      text = ap (λ x. bytes_of t ++ x) rest.text ∙ first.1;
      each = (subst (IsTokenOn server mode t) (sym rest.text) first.2, rest.each);
    })

-- the tokens of a text on a server, if these are computed
read_right : (server : Server) (mode : Bool) (text : List ℕ) (ts : List Token) → read_within server mode text text ≡ ts →
    IsReadOn server mode text ts
read_right server mode text ts e = subst (IsReadOn server mode text) e (within_right server mode text text (omega arith))

-- ---- texts that are read in different ways

pub grammar_skips : Reads grammar (codes "/*M!a*/") (BlockComment (codes "M!a*/") ∷ [])
grammar_skips mode = read_right grammar mode (codes "/*M!a*/") _ refl

pub mysql_skips : (version : ℕ) → Reads (mysql version) (codes "/*M!a*/") (BlockComment (codes "M!a*/") ∷ [])
mysql_skips version mode = read_right (mysql version) mode (codes "/*M!a*/") _ refl

pub mariadb_reads : (version : ℕ) → Reads (mariadb version) (codes "/*M!a*/") (all_plain (codes "/*M!a*/"))
mariadb_reads version mode = read_right (mariadb version) mode (codes "/*M!a*/") _ (rw (leb-zero version) refl)

pub grammar_passes_dollars : Reads grammar (codes "$$a$$") (all_plain (codes "$$a$$"))
grammar_passes_dollars mode = read_right grammar mode (codes "$$a$$") _ refl

pub mysql_quotes : (version : ℕ) → Reads (mysql version) (codes "$$a$$") (QuotedString dollar (codes "$a$$") ∷ [])
mysql_quotes version mode = read_right (mysql version) mode (codes "$$a$$") _ refl

pub mariadb_passes_dollars : (version : ℕ) → Reads (mariadb version) (codes "$$a$$") (all_plain (codes "$$a$$"))
mariadb_passes_dollars version mode = read_right (mariadb version) mode (codes "$$a$$") _ refl

pub grammar_reads : Reads grammar (codes "/*!99999a*/") (all_plain (codes "/*!99999a*/"))
grammar_reads mode = read_right grammar mode (codes "/*!99999a*/") _ refl

pub mysql_skips_later : (version : ℕ) → version < 99999 →
    Reads (mysql version) (codes "/*!99999a*/") (BlockComment (codes "!99999a*/") ∷ [])
mysql_skips_later version l mode = record {
  text = refl;
  each = (usual_block (later version l) (up_to_gives (asterisk ∷ slash ∷ []) (codes "!99999a*/") (omega arith)), tt);
}
  where
    later : (version : ℕ) → version < 99999 → from_version 99999 version ≡ comment
    later version l = rw (lt-leb 99999 version l) refl

pub mariadb_skips_later : (version : ℕ) → Reads (mariadb version) (codes "/*!99999a*/") (BlockComment (codes "!99999a*/") ∷ [])
mariadb_skips_later version mode = read_right (mariadb version) mode (codes "/*!99999a*/") _ refl
