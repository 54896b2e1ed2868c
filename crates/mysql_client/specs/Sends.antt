-- What the client `mysql` 9, or `mariadb` 10.11 or 11.8, sends of a text on its standard input,
-- with the options of README: comments are kept, and the character set is utf8mb4. The client reads
-- lines and drops a carriage return before a newline. From a line with a byte 0 on it reads no
-- more. It looks for strings, identifiers and comments to know where a statement ends. Source: the
-- texts that the clients send, by experiment (docs/EVIDENCE.md).
use Rattle.std.specs.Prelude.{ℕ, Bool, true, false, not, ◌==◌, ◌&&◌, ◌||◌, if◌then◌else◌, List, [], ◌∷◌, drop}
use Rattle.std.specs.Str.{byte}
use Rattle.mysql_named_params.specs.Bytes.{backquote, carriage_return, dash, hash, newline, begins}
use Rattle.mysql_client.specs.Outgoing.{Outgoing, is_space, is_empty, pass_on, pass_as_is, pass_with_next, owe, send, send_if, end_line}
use Rattle.mysql_client.specs.ClientState.{Program, no_special, Reading, outside, after_end, in_quotes, after_backslash, opens_comment, in_comment, closes_comment, in_line, stopped, at_command, State, ends_here, is_none, is_hint, begins_block, begins_close, begins_delimiter, ends_dashes, escapes, Beginning, command, null, dropped, end, line_comment, empty_comment, block_comment, quotes, other, beginning, special_after}

-- ---- a byte of a line

-- a byte with which this begins, before this text
abbrev pub begun : Program → State → ℕ → List ℕ → Beginning → State
begun p s b rest command = record s { reading = at_command }
begun p s b rest null = record s { fresh = false; out = pass_with_next b s.out }
begun p s b rest dropped = s
begun p s b rest end = record s { reading = after_end; fresh = true; drops = false }
begun p s b rest line_comment = record s {
  reading = in_line (is_empty s.out.gathered);
  fresh = s.fresh && is_empty s.out.gathered;
  drops = false;
  out = pass_as_is b s.out;
}
begun p s b rest empty_comment =
    record s { fresh = false; drops = false; out = pass_with_next b s.out }
begun p s b rest block_comment = record s {
  reading = opens_comment;
  fresh = false;
  drops = false;
  out = pass_with_next b s.out;
}
begun p s b rest quotes =
    record s { reading = in_quotes b; fresh = false; out = pass_on b rest s.out }
begun p s b rest other = record s {
  special = special_after p s.special b rest;
  fresh = is_space b && s.fresh;
  out = pass_on b rest s.out;
}

-- outside of quotes and comments
abbrev pub read_outside : Program → State → ℕ → List ℕ → State
read_outside p s b rest = begun p s b rest (beginning p s b rest)

-- a comment of one line, on the line of a `;` and after it
abbrev pub follows_end : Program → ℕ → List ℕ → Bool
follows_end p b rest = b == hash || (b == dash && ends_dashes p false rest)

-- on the line of a `;` and after it: white space, a comment, or the next statement
abbrev pub read_after_end : Program → State → ℕ → List ℕ → State
read_after_end p s b rest =
    if is_space b then record s { out = pass_as_is b s.out }
    else if follows_end p b rest
    then record s { reading = in_line true; out = pass_as_is b s.out }
    else read_outside p (record s { reading = outside; out = send s.out }) b rest

-- a backslash in quotes that escapes: at the end of a line it is dropped, and before a backquote in
-- backquotes it escapes nothing
abbrev pub read_backslash : ℕ → State → ℕ → List ℕ → State
read_backslash quote s b rest =
    if ends_here rest then s
    else if quote == backquote && begins (λ c. c == backquote) rest
    then record s { out = pass_as_is b s.out }
    else record s { reading = after_backslash quote; out = pass_as_is b s.out }

-- in quotes
abbrev pub read_in_quotes : Program → Bool → ℕ → State → ℕ → List ℕ → State
read_in_quotes p mode quote s b rest =
    if b == byte "\\" && escapes p mode quote then read_backslash quote s b rest
    else record s {
      reading = if b == quote then outside else in_quotes quote;
      out = pass_as_is b s.out;
    }

-- In a block comment. A `/*` in it hides the `*` from the end of the comment.
abbrev pub read_in_comment : Program → State → ℕ → List ℕ → State
read_in_comment p s b rest =
    if begins_block p b rest && not (is_hint s.special)
    then record s { reading = opens_comment; out = pass_with_next b s.out }
    else if begins_close b rest && is_none s.special
    then record s { reading = closes_comment; out = pass_with_next b s.out }
    else record s { special = special_after p s.special b rest; out = pass_on b rest s.out }

-- the `/` at the end of a block comment
abbrev pub read_close : State → ℕ → List ℕ → State
read_close s b rest =
    record s { reading = outside; drops = false; out = owe (pass_on b rest s.out) }

-- a byte of a line, by what the client is reading
abbrev pub read : Program → Bool → Reading → State → ℕ → List ℕ → State
read p mode outside s b rest = read_outside p s b rest
read p mode after_end s b rest = read_after_end p s b rest
read p mode (in_quotes quote) s b rest = read_in_quotes p mode quote s b rest
read p mode (after_backslash quote) s b rest =
    record s { reading = in_quotes quote; out = pass_as_is b s.out }
read p mode opens_comment s b rest =
    record s { reading = in_comment; out = pass_on b rest s.out }
read p mode in_comment s b rest = read_in_comment p s b rest
read p mode closes_comment s b rest = read_close s b rest
read p mode (in_line ends) s b rest = record s { out = pass_as_is b s.out }
read p mode stopped s b rest = s
read p mode at_command s b rest = s

-- ---- lines

-- a byte 0 is in the first line of the text
abbrev pub holds_zero : List ℕ → Bool
holds_zero [] = false
holds_zero (b ∷ bs) = b == 0 || (not (b == newline) && holds_zero bs)

-- the client goes on where it is
abbrev pub goes_on : Reading → Bool
goes_on stopped = false
goes_on at_command = false
goes_on r = true

-- the front of a line
abbrev pub at_line : Program → List ℕ → State → State
at_line p rest s =
    if holds_zero rest then record s { reading = stopped }
    else record s { special = no_special; drops = begins_delimiter p rest }

-- The end of a line, by what the client is reading. It drops the newline after a line that begins
-- with `delimiter`, unless a string, an identifier or a comment is open.
abbrev pub line_ended : Reading → State → State
line_ended outside s = record s { out = end_line s.drops s.out }
line_ended after_end s = record s { reading = outside; out = end_line false (send s.out) }
line_ended (in_line ends) s =
    record s { reading = outside; out = end_line false (send_if ends s.out) }
line_ended r s = record s { out = end_line false s.out }

-- the end of a line, and the front of the next
abbrev pub next_line : Program → List ℕ → State → State
next_line p rest s = if goes_on s.reading then at_line p rest (line_ended s.reading s) else s

-- a carriage return before a newline
abbrev pub is_return : ℕ → List ℕ → Bool
is_return b rest = b == carriage_return && begins (λ c. c == newline) rest

-- a byte of a text, before this rest
abbrev pub step : Program → Bool → State → ℕ → List ℕ → State
step p mode s b rest =
    if is_return b rest then s
    else if b == newline then next_line p rest s
    else read p mode s.reading s b rest

-- the bytes of a text
abbrev pub steps : Program → Bool → State → List ℕ → State
steps p mode s [] = s
steps p mode s (b ∷ bs) = steps p mode (step p mode s b bs) bs

-- ---- texts

-- nothing is sent or gathered
abbrev pub nothing_sent : Outgoing
nothing_sent = record { sent = []; gathered = []; owed = false; left = 0 }

-- the front of a text
abbrev pub begin : Program → List ℕ → State
begin p text = at_line p text (record {
  reading = outside;
  special = no_special;
  fresh = true;
  drops = false;
  out = nothing_sent;
})

-- what a client sends
pub record Sending : Type 0 where
  -- the statements that it sends, as far as this is said
  pub statements : List (List ℕ)
  -- whether it comes to a command of its own, or to a text in `$$` or `$tag$`; what it sends from
  -- there on isn't said
  pub comes_to_command : Bool

-- what is sent at the end of a text, by what the client is reading
abbrev pub sent_at_end : Reading → Outgoing → Sending
sent_at_end stopped o = record { statements = o.sent; comes_to_command = false }
sent_at_end at_command o = record { statements = o.sent; comes_to_command = true }
sent_at_end r o = record { statements = (send o).sent; comes_to_command = false }

-- what is sent of a text without a UTF-8 mark
abbrev pub sends_lines : Program → Bool → List ℕ → Sending
sends_lines p mode text =
    let s = steps p mode (begin p text) text in sent_at_end s.reading s.out

-- the text begins with a UTF-8 mark: EF BB BF
abbrev pub begins_mark : List ℕ → Bool
begins_mark text =
    begins (λ b. b == 239) text
    && (begins (λ b. b == 187) (drop 1 text) && begins (λ b. b == 191) (drop 2 text))

-- the text without a UTF-8 mark at its front
abbrev pub without_mark : List ℕ → List ℕ
without_mark text = if begins_mark text then drop 3 text else text

-- what a client sends of a text, in a mode of its connection
abbrev pub sends : Program → Bool → List ℕ → Sending
sends p mode text = sends_lines p mode (without_mark text)
