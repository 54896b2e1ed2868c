-- MySQL and MariaDB as servers of Server.antt, as far as their manuals say how a text is read. Each
-- has a version number, such as 90700 and 101100 (9.7.0 and 10.11.0). The sources:
--   `/*!`           MySQL Reference Manual 9, "Comments"; MariaDB Knowledge Base, "Comment Syntax",
--                   by which MariaDB skips the versions 50700 to 99999, as only MySQL's
--   `/*M!`          MariaDB Knowledge Base, "Comment Syntax"; to MySQL it is a comment
--   `/*+`           MySQL Reference Manual 9, "Optimizer Hints"
--   `--`            MySQL Reference Manual 9, "'--' as the Start of a Comment": before white space
--                   or a control character; "Comment Syntax" has it as in MySQL
--   `$$`, `$tag$`   MySQL Reference Manual 9, "JavaScript Stored Programs"
--   `"`             MySQL Reference Manual 9, "Server SQL Modes" (no ANSI_QUOTES unless asked for)
--   `[`             MariaDB Knowledge Base, "SQL_MODE" (no MSSQL unless asked for)
-- MySQL takes `/*+` for a hint after some words, and so does MariaDB from version 12 on; elsewhere
-- it is a comment. Here it is a comment everywhere, since a hint ends at the same `*/`. `$$` opens
-- a text here even within a name, where MySQL continues the name. A skipped text ends at its first
-- `*/`; the manuals advise against a comment in a comment. A version may begin with 0 here; MySQL
-- takes five digits of it. Where the manuals say nothing, such as about `1.e--`, both servers read
-- like the grammar.
use Rattle.std.specs.Prelude.{ℕ, ◌+◌, Bool, false, not, ◌==◌, ◌&&◌, ◌||◌, nat_le, if◌then◌else◌, List, [], ◌∷◌, ◌++◌, length, take, drop, Option, Some, None}
use Rattle.std.specs.Char.{is_ascii_digit}
use Rattle.std.specs.List.{take_while}
use Rattle.std.specs.Str.{byte}
use Rattle.std.specs.Str.Parse.{digits_value}
use Rattle.mysql_named_params.specs.Bytes.{dollar, exclamation_mark, space}
use Rattle.mysql_named_params.specs.Tokens.{Token}
use Rattle.mysql_named_params.specs.TokensOf.{len_up_to}
use Rattle.mysql_portable.specs.ServerTokens.{Server, Block, executed, comment, is_tag_byte, IsReadOn}
use Rattle.mysql_portable.specs.Quiet.{plain_then}

-- the version number at the front of a text, of five or six digits; 0 if there is none
abbrev pub version_of : List ℕ → ℕ
version_of text =
    let digits = take_while is_ascii_digit (take 6 text) in
    if nat_le 5 (length digits) then digits_value 10 digits else 0

-- how a server of the second version reads a text for servers from the first version on
abbrev pub from_version : ℕ → ℕ → Block
from_version first version = if nat_le first version then executed else comment

-- white space or a control character of ASCII
abbrev pub is_gap : ℕ → Bool
is_gap b = nat_le b space || b == 127

-- After `$` and these bytes of a tag: the number of bytes up to the next `$tag$`, with it, or else
-- to the end. `None` if no `$` ends the tag.
abbrev pub dollar_quoted : List ℕ → List ℕ → Option ℕ
dollar_quoted tag [] = None
dollar_quoted tag (b ∷ bs) =
    if b == dollar then Some (length tag + 1 + len_up_to (dollar ∷ tag ++ dollar ∷ []) bs)
    else if is_tag_byte b then dollar_quoted (tag ++ b ∷ []) bs
    else None

-- how MySQL of a version reads `/*` and the text after it
abbrev pub mysql_special : ℕ → List ℕ → Block
mysql_special version [] = comment
mysql_special version (b ∷ text) =
    if b == exclamation_mark then from_version (version_of text) version else comment

-- MySQL 9 of this version
abbrev pub mysql : ℕ → Server
mysql version = record {
  special = mysql_special version;
  quotes = λ b text. if b == dollar then dollar_quoted [] text else None;
  also_opens = is_gap;
  lines = λ text. None;
  identifiers = λ text. None;
  ansi_quotes = false;
}

-- a version after `/*!` that MariaDB takes for one that only MySQL has
abbrev pub is_of_mysql : ℕ → Bool
is_of_mysql version = nat_le 50700 version && nat_le version 99999

-- how MariaDB of a version reads `/*` and the text after it
abbrev pub mariadb_special : ℕ → List ℕ → Block
mariadb_special version [] = comment
mariadb_special version (b ∷ text) =
    if b == byte "M" then from_version (version_of (drop 1 text)) version
    else if b == exclamation_mark && not (is_of_mysql (version_of text))
    then from_version (version_of text) version
    else comment

-- MariaDB of this version
abbrev pub mariadb : ℕ → Server
mariadb version = record {
  special = mariadb_special version;
  quotes = λ b text. None;
  also_opens = is_gap;
  lines = λ text. None;
  identifiers = λ text. None;
  ansi_quotes = false;
}

-- the server reads the text as these tokens, in both modes
abbrev pub Reads : Server → List ℕ → List Token → Type 0
Reads server text ts = (mode : Bool) → IsReadOn server mode text ts

-- each byte of the text as a plain token
abbrev pub all_plain : List ℕ → List Token
all_plain text = plain_then [] text
