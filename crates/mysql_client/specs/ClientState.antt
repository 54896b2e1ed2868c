-- Where a client is in a text, and what begins at a byte there. A *special* comment is one of
-- `/*!`, `/*+` and `/*M!`.
use Rattle.std.specs.Prelude.{ℕ, Bool, true, false, not, ◌==◌, ◌&&◌, ◌||◌, if◌then◌else◌, List, [], ◌∷◌, drop, codes, nat_lt, take}
use Rattle.std.specs.List.{list_all}
use Rattle.std.specs.Str.{byte}
use Rattle.mysql_named_params.specs.Bytes.{asterisk, backquote, carriage_return, dash, dollar, exclamation_mark, hash, newline, plus, slash, is_string_quote, begins}
use Rattle.mysql_portable.specs.ServerTokens.{is_tag_byte}
use Rattle.mysql_portable.specs.FoundInClient.{letter_of, begins_word, is_word_of_mariadb}
use Rattle.mysql_client.specs.Outgoing.{Outgoing, is_space, is_empty}

-- the clients: `mysql` 9, and `mariadb` 10.11 and 11.8
pub data Program : Type 0 where
  mysql : Program
  mariadb : Program

-- whether it is `mariadb`
abbrev pub is_mariadb : Program → Bool
is_mariadb mysql = false
is_mariadb mariadb = true

-- the special comment that is open on a line
pub data Special : Type 0 where
  -- none
  no_special : Special
  -- `/*!`
  executed : Special
  -- `/*+`, to `mysql`
  hint : Special
  -- `/*M!`, to `mariadb`, which reads it like any other text
  only_read : Special

-- what the client is reading
pub data Reading : Type 0 where
  -- what is outside of strings, identifiers and comments
  outside : Reading
  -- the same, while only white space has come after a `;` on its line
  after_end : Reading
  -- a text in these quotes
  in_quotes : ℕ → Reading
  -- the byte after a backslash, in these quotes
  after_backslash : ℕ → Reading
  -- the `*` of `/*`
  opens_comment : Reading
  -- a block comment
  in_comment : Reading
  -- the `/` of `*/`
  closes_comment : Reading
  -- a comment of one line, and whether a statement ends with it
  in_line : Bool → Reading
  -- nothing more
  stopped : Reading
  -- a command of its own, or a text in `$$` or `$tag$`: what is sent from here on isn't said
  at_command : Reading

-- the state of a client
pub record State : Type 0 where
  pub reading : Reading
  pub special : Special
  -- only white space has come of the next statement
  pub fresh : Bool
  -- the client drops the newline at the end of this line, if it is outside of quotes there
  pub drops : Bool
  pub out : Outgoing

-- the text is empty, or a line ends here: with a newline, or with a carriage return and a newline
abbrev pub ends_here : List ℕ → Bool
ends_here [] = true
ends_here (b ∷ bs) = b == newline || (b == carriage_return && begins (λ c. c == newline) bs)

-- white space that doesn't end the line
abbrev pub is_gap : List ℕ → Bool
is_gap text = begins is_space text && not (ends_here text)

-- the first bytes of the text, as many as `delimiter` has, are ASCII
abbrev pub begins_in_ascii : List ℕ → Bool
begins_in_ascii text = list_all (λ b. nat_lt b 128) (take 9 text)

-- The text begins with the word `delimiter`. Only `mariadb` also takes letters with accents.
abbrev pub begins_delimiter : Program → List ℕ → Bool
begins_delimiter p text =
    begins_word (codes "delimiter") text && (is_mariadb p || begins_in_ascii text)

-- This byte before this text is a word of the client. `mysql` knows only `delimiter`, without
-- `--commands`.
abbrev pub is_own_word : Program → ℕ → List ℕ → Bool
is_own_word p b rest =
    begins_delimiter p (b ∷ rest) || (is_word_of_mariadb (letter_of b) rest && is_mariadb p)

-- after `$`: the rest of `$$` or `$tag$`
abbrev pub ends_tag : List ℕ → Bool
ends_tag [] = false
ends_tag (b ∷ bs) = b == dollar || (is_tag_byte b && ends_tag bs)

-- the special comment that `/*` before this text opens
abbrev pub special_at : Program → List ℕ → Special
special_at p [] = no_special
special_at p (b ∷ bs) =
    if b == exclamation_mark then executed
    else if b == plus then (if is_mariadb p then no_special else hint)
    else if (b == byte "M" && begins (λ c. c == exclamation_mark) bs) && is_mariadb p
    then only_read
    else no_special

-- no special comment
abbrev pub is_none : Special → Bool
is_none no_special = true
is_none s = false

-- a hint
abbrev pub is_hint : Special → Bool
is_hint hint = true
is_hint s = false

-- `/*` of a comment
abbrev pub begins_block : Program → ℕ → List ℕ → Bool
begins_block p b rest =
    b == slash && (begins (λ c. c == asterisk) rest && is_none (special_at p (drop 1 rest)))

-- `*/`
abbrev pub begins_close : ℕ → List ℕ → Bool
begins_close b rest = b == asterisk && begins (λ c. c == slash) rest

-- After a `-`: another one that opens a comment. `nothing` says that nothing is gathered. Then
-- `mariadb` asks for no white space.
abbrev pub ends_dashes : Program → Bool → List ℕ → Bool
ends_dashes p nothing [] = false
ends_dashes p nothing (b ∷ bs) =
    b == dash && (is_gap bs || (nothing && (ends_here bs || is_mariadb p)))

-- the sign of a comment of one line
abbrev pub begins_line_comment : Program → Bool → ℕ → List ℕ → Bool
begins_line_comment p nothing b rest = b == hash || (b == dash && ends_dashes p nothing rest)

-- after a `-`: another one, at the end of a line
abbrev pub ends_empty_comment : List ℕ → Bool
ends_empty_comment [] = false
ends_empty_comment (b ∷ bs) = b == dash && ends_here bs

-- `--` at the end of a line
abbrev pub begins_empty_comment : ℕ → List ℕ → Bool
begins_empty_comment b rest = b == dash && ends_empty_comment rest

-- A backslash escapes in these quotes. `mode` is the one without backslash escapes.
abbrev pub escapes : Program → Bool → ℕ → Bool
escapes p mode quote = not mode && not (quote == backquote && is_mariadb p)

-- what begins at a byte
pub data Beginning : Type 0 where
  -- a command of the client, or a text in `$$` or `$tag$`
  command : Beginning
  -- `\N`
  null : Beginning
  -- a backslash at the end of a line, which the client drops
  dropped : Beginning
  -- `;`
  end : Beginning
  -- a comment of one line
  line_comment : Beginning
  -- `--` at the end of a line
  empty_comment : Beginning
  -- a block comment
  block_comment : Beginning
  -- a string or an identifier
  quotes : Beginning
  -- anything else
  other : Beginning

-- what begins with a backslash before this text
abbrev pub after_slash : List ℕ → Beginning
after_slash rest =
    if begins (λ c. c == byte "N") rest then null else if ends_here rest then dropped else command

-- the text begins with `/*`
abbrev pub begins_slash_star : List ℕ → Bool
begins_slash_star [] = false
begins_slash_star (b ∷ bs) = b == slash && begins (λ c. c == asterisk) bs

-- where `mysql` looks for its command `delimiter`, from the front of a statement on
pub data Look : Type 0 where
  -- outside of comments
  past : Look
  -- at the `*` of `/*`
  at_star : Look
  -- in a block comment, up to its first `*/`
  in_plain : Look
  -- in a special comment, likewise
  in_special : Look
  -- at the `/` of `*/`
  at_slash : Look

-- the word is at the front of a text, behind white space
abbrev pub begins_line_word : Program → List ℕ → Bool
begins_line_word p [] = false
begins_line_word p (b ∷ bs) =
    begins_delimiter p (b ∷ bs) || (is_space b && begins_line_word p bs)

-- where the look goes on after `/` before this text
abbrev pub look_in : Program → List ℕ → Look
look_in p rest = if is_none (special_at p (drop 1 rest)) then at_star else in_special

-- The look finds the word: after white space and comments, or at the front of a line of a special
-- comment. A backslash at the end of a line counts for nothing.
abbrev pub finds_word : Program → Look → List ℕ → Bool
finds_word p look [] = false
finds_word p past (b ∷ bs) =
    begins_delimiter p (b ∷ bs)
    || (if is_space b || (b == byte "\\" && ends_here bs) then finds_word p past bs
    else begins_slash_star (b ∷ bs) && finds_word p (look_in p bs) bs)
finds_word p at_star (b ∷ bs) = finds_word p in_plain bs
finds_word p in_plain (b ∷ bs) =
    finds_word p (if begins_close b bs then at_slash else in_plain) bs
finds_word p in_special (b ∷ bs) =
    (b == newline && begins_line_word p bs)
    || finds_word p (if begins_close b bs then at_slash else in_special) bs
finds_word p at_slash (b ∷ bs) = finds_word p past bs

-- A comment with which a statement begins, before the command `delimiter` of `mysql`. If the
-- comment holds a `/`, the word may be no command after all.
abbrev pub hides_command : Program → ℕ → List ℕ → Bool
hides_command p b rest =
    begins_slash_star (b ∷ rest) && (finds_word p (look_in p rest) rest && not (is_mariadb p))

-- what begins at a byte before this text, outside of quotes and comments
abbrev pub beginning : Program → State → ℕ → List ℕ → Beginning
beginning p s b rest =
    if (is_own_word p b rest || hides_command p b rest) && s.fresh then command
    else if b == byte "\\" then after_slash rest
    else if is_hint s.special then other
    else if b == byte ";" then end
    else if begins_line_comment p (is_empty s.out.gathered && s.fresh) b rest then line_comment
    else if begins_empty_comment b rest then empty_comment
    else if begins_block p b rest then block_comment
    else if b == dollar && (ends_tag rest && not (is_mariadb p)) then command
    else if is_string_quote b || b == backquote then quotes
    else other

-- the special comment that is open on a line after this one opens
abbrev pub opened : Special → Special → Special
opened before executed = executed
opened before hint = hint
opened before s = before

-- the special comment that is open after a byte before this text
abbrev pub special_after : Program → Special → ℕ → List ℕ → Special
special_after p special b rest =
    if b == slash && begins (λ c. c == asterisk) rest
    then opened special (special_at p (drop 1 rest))
    else if begins_close b rest then no_special
    else special
