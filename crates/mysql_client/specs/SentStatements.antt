-- The statements of a text as a client sends them, by the tokens of the grammar: cut at each `;`
-- outside of strings, identifiers and comments, each as it is, with these exceptions:
-- - A carriage return before a newline isn't sent.
-- - A space comes after a block comment, if no white space does (Outgoing.antt). After `;` on the
--   line of the comment it may come within the next word: `/**/;éa` is sent as `/**/` and `é a`.
--   To `mariadb` a hint is a block comment; to `mysql`, one of `/*M!` is. Directly before a block
--   comment the space comes after its `/*`: `/**//*+a*/` is sent as `/**//* +a*/`.
-- - White space, control bytes and the byte 255 at the end of a statement aren't sent, nor are
--   empty lines at its front, nor statements of nothing else.
-- - A comment of one line after `;` on its line is sent with the statement before it. If it is the
--   first of a statement, it is sent like a statement.
use Rattle.std.specs.Prelude.{ℕ, Bool, true, false, ◌==◌, ◌&&◌, ◌||◌, if◌then◌else◌, List, [], ◌∷◌, ◌++◌, drop}
use Rattle.std.specs.Str.{byte}
use Rattle.mysql_named_params.specs.Bytes.{asterisk, colon, dash, hash, newline, plus, question_mark, slash, begins}
use Rattle.mysql_named_params.specs.Tokens.{Token, text_of, QuotedString, QuotedIdentifier, HashComment, DashComment, BlockComment, Name, Mark, Plain}
use Rattle.mysql_portable.specs.ServerTokens.{begins_special}
use Rattle.mysql_client.specs.Outgoing.{Outgoing, is_space, is_empty, pass_on, pass_as_is, pass_with_next, owe, send, send_if, end_line}
use Rattle.mysql_client.specs.ClientState.{Program, is_mariadb, begins_empty_comment, begins_close, begins_block, begins_slash_star}
use Rattle.mysql_client.specs.Sends.{is_return, nothing_sent, begins_mark}

-- where `mariadb` is in a hint, whose bytes are plain tokens
pub data HintPart : Type 0 where
  -- in none
  no_part : HintPart
  -- after the `/` at its front
  in_hint : HintPart
  -- before the `/` at its end
  at_hint_end : HintPart

-- what is gathered
pub record Gathering : Type 0 where
  -- whether only white space has come after a `;` on its line
  pub after : Bool
  -- where the client is in a hint
  pub part : HintPart
  pub out : Outgoing

-- a statement ends before the next token
abbrev pub ended : Gathering → Outgoing
ended g = send_if g.after g.out

-- a byte of a string, an identifier or a comment of one line
abbrev pub line_byte : Bool → ℕ → List ℕ → Outgoing → Outgoing
line_byte ends b rest o =
    if is_return b rest then o
    else if b == newline then end_line false (send_if ends o)
    else pass_as_is b o

-- the bytes of one, before a rest; `ends` says whether a statement ends with it
abbrev pub line_out : Bool → List ℕ → List ℕ → Outgoing → Outgoing
line_out ends [] rest o = o
line_out ends (b ∷ bs) rest o = line_out ends bs rest (line_byte ends b (bs ++ rest) o)

-- a byte of a block comment before its end
abbrev pub comment_byte : Program → ℕ → List ℕ → Outgoing → Outgoing
comment_byte p b rest o =
    if is_return b rest then o
    else if b == newline then end_line false o
    else if begins_block p b rest then pass_with_next b o
    else pass_on b rest o

-- the bytes after `/*`, before a rest
abbrev pub comment_out : Program → List ℕ → List ℕ → Outgoing → Outgoing
comment_out p [] rest o = o
comment_out p (b ∷ bs) rest o =
    if begins_close b bs then owe (pass_on slash rest (pass_with_next b o))
    else comment_out p bs rest (comment_byte p b (bs ++ rest) o)

-- the bytes of a name, before a rest
abbrev pub name_out : List ℕ → List ℕ → Outgoing → Outgoing
name_out [] rest o = o
name_out (b ∷ bs) rest o = name_out bs rest (pass_on b (bs ++ rest) o)

-- a plain byte of a line: `\N` and an empty comment go as they are
abbrev pub plain_out : ℕ → List ℕ → Outgoing → Outgoing
plain_out b rest o =
    if b == byte "\\" || begins_empty_comment b rest then pass_with_next b o else pass_on b rest o

-- a plain byte outside of hints
abbrev pub plain_after : ℕ → List ℕ → Gathering → Gathering
plain_after b rest g =
    if is_return b rest then g
    else if b == newline
    then record { after = false; part = no_part; out = end_line false (ended g) }
    else if b == byte ";" then record { after = true; part = no_part; out = ended g }
    else if is_space b && g.after
    then record { after = true; part = no_part; out = pass_as_is b g.out }
    else record { after = false; part = no_part; out = plain_out b rest (ended g) }

-- such bytes, before a rest
abbrev pub bytes_after : List ℕ → List ℕ → Gathering → Gathering
bytes_after [] rest g = g
bytes_after (b ∷ bs) rest g = bytes_after bs rest (plain_after b (bs ++ rest) g)

-- `/*+` begins there, a block comment to `mariadb`
abbrev pub opens_hint : Program → ℕ → List ℕ → Bool
opens_hint p b rest =
    (begins_slash_star (b ∷ rest) && begins (λ c. c == plus) (drop 1 rest)) && is_mariadb p

-- a plain byte, by where the client is in a hint
abbrev pub byte_after : Program → HintPart → ℕ → List ℕ → Gathering → Gathering
byte_after p no_part b rest g =
    if opens_hint p b rest
    then record { after = false; part = in_hint; out = pass_with_next b (ended g) }
    else plain_after b rest g
byte_after p in_hint b rest g =
    if begins_close b rest
    then record { after = false; part = at_hint_end; out = pass_with_next b g.out }
    else record { after = false; part = in_hint; out = comment_byte p b rest g.out }
byte_after p at_hint_end b rest g =
    record { after = false; part = no_part; out = owe (pass_on b rest g.out) }

-- a block comment
abbrev pub comment_after : Program → List ℕ → List ℕ → Gathering → Gathering
comment_after p tail rest g = record {
  after = false;
  part = no_part;
  out = comment_out p tail rest (pass_on asterisk (tail ++ rest) (pass_with_next slash (ended g)));
}

-- a statement ends with a comment of one line
abbrev pub ends_with : Gathering → Bool
ends_with g = g.after || is_empty g.out.gathered

-- what is gathered after a token, before this text
abbrev pub gathered_after : Program → Token → List ℕ → Gathering → Gathering
gathered_after p (QuotedString quote tail) rest g = record {
  after = false;
  part = no_part;
  out = line_out false tail rest (pass_on quote (tail ++ rest) (ended g));
}
gathered_after p (QuotedIdentifier tail) rest g = record {
  after = false;
  part = no_part;
  out = line_out false tail rest (pass_on (byte "`") (tail ++ rest) (ended g));
}
gathered_after p (HashComment tail) rest g = record {
  after = false;
  part = no_part;
  out = line_out (ends_with g) tail rest (pass_as_is hash g.out);
}
gathered_after p (DashComment gap tail) rest g = record {
  after = false;
  part = no_part;
  out = line_out (ends_with g) (dash ∷ gap ∷ tail) rest (pass_as_is dash g.out);
}
gathered_after p (BlockComment tail) rest g =
    if begins_special tail && is_mariadb p
    then bytes_after (slash ∷ asterisk ∷ tail) rest g
    else comment_after p tail rest g
gathered_after p (Name name) rest g = record {
  after = false;
  part = no_part;
  out = name_out name rest (pass_on colon (name ++ rest) (ended g));
}
gathered_after p Mark rest g =
    record { after = false; part = no_part; out = pass_on question_mark rest (ended g) }
gathered_after p (Plain b) rest g = byte_after p g.part b rest g

-- what is gathered after the tokens
abbrev pub gathered_from : Program → Gathering → List Token → Gathering
gathered_from p g [] = g
gathered_from p g (t ∷ ts) = gathered_from p (gathered_after p t (text_of ts) g) ts

-- the front of a text
abbrev pub first_gathering : Gathering
first_gathering = record { after = false; part = no_part; out = nothing_sent }

-- the statements of these tokens as the client sends them
abbrev pub sent_from : Program → List Token → List (List ℕ)
sent_from p ts =
    (send (gathered_from p first_gathering ts).out).sent

-- the statements of a text of these tokens as the client sends them; a UTF-8 mark isn't sent
abbrev pub sent_statements : Program → List Token → List (List ℕ)
sent_statements p ts = sent_from p (if begins_mark (text_of ts) then drop 3 ts else ts)
