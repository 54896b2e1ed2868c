-- What a client has sent of a text, and what it has gathered of the next statement. A client that
-- keeps comments owes a space after each block comment: it puts the space before the next byte of
-- the line, unless that is white space. Bytes of a character of UTF-8 outside of ASCII, and others
-- that it handles in pairs, go before this space. Source: the texts that the clients send, by
-- experiment (docs/EVIDENCE.md).
use Rattle.std.specs.Prelude.{ℕ, ◌-◌, Bool, true, false, ◌==◌, ◌&&◌, ◌||◌, nat_le, nat_lt, if◌then◌else◌, List, [], ◌∷◌, ◌++◌}
use Rattle.mysql_named_params.specs.Bytes.{tab, newline, carriage_return, space, begins}

-- what is sent, and what is to be sent
pub record Outgoing : Type 0 where
  -- the statements that are sent, in their order
  pub sent : List (List ℕ)
  -- the bytes of the next statement so far
  pub gathered : List ℕ
  -- whether the client owes a space
  pub owed : Bool
  -- the number of the next bytes that go before the space
  pub left : ℕ

-- white space to a client
abbrev pub is_space : ℕ → Bool
is_space b = (nat_le tab b && nat_le b carriage_return) || b == space

-- a byte that a client drops at the end of a statement: white space, a control byte, or byte 255
abbrev pub is_trimmed : ℕ → Bool
is_trimmed b = nat_le b space || (b == 127 || nat_le 255 b)

-- no bytes
abbrev pub is_empty : List ℕ → Bool
is_empty [] = true
is_empty (b ∷ bs) = false

-- the byte before these bytes, if one of them stays or the byte does
abbrev pub in_front : ℕ → List ℕ → List ℕ
in_front b bs = if is_empty bs && is_trimmed b then [] else b ∷ bs

-- the text without such bytes at its end
abbrev pub trimmed : List ℕ → List ℕ
trimmed [] = []
trimmed (b ∷ bs) = in_front b (trimmed bs)

-- the byte is gathered
abbrev pub keep : ℕ → Outgoing → Outgoing
keep b o = record o { gathered = o.gathered ++ b ∷ [] }

-- a byte that continues a character of UTF-8
abbrev pub is_continuing : ℕ → Bool
is_continuing b = nat_le 128 b && nat_le b 191

-- the text begins with this byte, between these, and with one more that continues it, or two more
abbrev pub begins_two : ℕ → ℕ → List ℕ → Bool
begins_two low high [] = false
begins_two low high (b ∷ bs) = (nat_le low b && nat_le b high) && begins is_continuing bs

-- the same, with one more
abbrev pub begins_three : ℕ → ℕ → List ℕ → Bool
begins_three low high [] = false
begins_three low high (b ∷ bs) = (nat_le low b && nat_le b high) && begins_two 128 191 bs

-- The number of bytes after this one that belong to its character, if it has any: 2 to 4 bytes are
-- a character (RFC 3629).
abbrev pub more_of_character : ℕ → List ℕ → ℕ
more_of_character b rest =
    if nat_le 194 b && nat_le b 223 then (if begins is_continuing rest then 1 else 0)
    else if nat_le 224 b && nat_le b 239
    then (if begins_two (if b == 224 then 160 else 128) 191 rest then 2 else 0)
    else if nat_le 240 b && nat_le b 244
    then (if begins_three (if b == 240 then 144 else 128) (if b == 244 then 143 else 191) rest
    then 3 else 0)
    else 0

-- a byte for which the client puts the space that it owes, or drops it
abbrev pub settle : ℕ → List ℕ → Outgoing → Outgoing
settle b rest o =
    if is_space b then record (keep b o) { owed = false }
    else if nat_lt 0 (more_of_character b rest)
    then record (keep b o) { left = more_of_character b rest }
    else record (keep b (keep space o)) { owed = false }

-- the client passes on a byte before this text
unfoldable pub pass_on : ℕ → List ℕ → Outgoing → Outgoing
pass_on b rest o =
    if nat_lt 0 o.left then record (keep b o) { left = o.left - 1 }
    else if o.owed then settle b rest o
    else keep b o

-- the client passes on a byte as it is
unfoldable pub pass_as_is : ℕ → Outgoing → Outgoing
pass_as_is b o = keep b o

-- the client passes on a byte and the next one as they are
unfoldable pub pass_with_next : ℕ → Outgoing → Outgoing
pass_with_next b o = record (keep b o) { left = 1 }

-- the client owes a space
unfoldable pub owe : Outgoing → Outgoing
owe o = record o { owed = true; left = 0 }

-- the statements and one more, if it isn't empty
abbrev pub with_statement : List (List ℕ) → List ℕ → List (List ℕ)
with_statement sent text = if is_empty text then sent else sent ++ text ∷ []

-- the client sends what it has gathered, if anything is left of it
unfoldable pub send : Outgoing → Outgoing
send o = record o { sent = with_statement o.sent (trimmed o.gathered); gathered = [] }

-- the same, if a statement ends
abbrev pub send_if : Bool → Outgoing → Outgoing
send_if ends o = if ends then send o else o

-- The end of a line: a newline is gathered, if anything was and the client doesn't drop it. No
-- space is owed on the next line.
unfoldable pub end_line : Bool → Outgoing → Outgoing
end_line drops o = record o {
  gathered = if is_empty o.gathered || drops then o.gathered else o.gathered ++ newline ∷ [];
  owed = false;
  left = 0;
}
