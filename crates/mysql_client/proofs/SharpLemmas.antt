-- For each construct a text that a client sends otherwise.
use Rattle.std.specs.Prelude.{Bool, codes}
use Rattle.std.proofs.Common.{◌≡◌, ◌≢◌, ℕ, true, false, ◌==◌, List, [], ◌∷◌, None, length, refl, ◌++◌, ap, sym, ◌∙◌, true≢false}
use Rattle.mysql_sql_text.specs.StringUnits.{with_backslashes}
use Rattle.mysql_named_params.specs.TokensOf.{tokens_of}
use Rattle.mysql_portable.specs.FirstUnportableInClient.{first_unportable_in_client}
use Rattle.mysql_portable.specs.FoundInClient.{is_client_word}
use Rattle.mysql_portable.specs.declared.portable.Construct.TheVariants as construct
use Rattle.mysql_client.specs.Outgoing.{pass_on, pass_as_is, pass_with_next, owe, send, end_line}
use Rattle.mysql_client.specs.ClientState.{Program, mysql, mariadb}
use Rattle.mysql_client.specs.Sends.{Sending}
use Rattle.mysql_client.specs.SentOtherwise.{IsSentOtherwiseBy, Sends}

-- ---- what tells two sendings apart

-- one statement is sent
abbrev one_is_sent : Sending → Bool
one_is_sent s = length s.statements == 1

abbrev first_len : List (List ℕ) → ℕ
first_len [] = 0
first_len (x ∷ xs) = length x

-- the first statement has this length
abbrev has_length : ℕ → Sending → Bool
has_length n s = first_len s.statements == n

differ : (test : Sending → Bool) (a b : Sending) → test a ≡ true → test b ≡ false → a ≢ b
differ test a b p q e = true≢false (sym p ∙ (ap test e ∙ q))

differ_so : (test : Sending → Bool) (a b : Sending) → test a ≡ false → test b ≡ true → a ≢ b
differ_so test a b p q e = true≢false (sym q ∙ (sym (ap test e) ∙ p))

-- ---- by each construct

pub zero_byte : (p : Program) → IsSentOtherwiseBy p (97 ∷ 0 ∷ []) construct.ZeroByte 1
unfolding is_client_word pass_on pass_as_is pass_with_next owe send end_line
zero_byte mysql = record {
  found = refl;
  otherwise = differ_so one_is_sent _ _ refl refl;
}
zero_byte mariadb = record {
  found = refl;
  otherwise = differ_so one_is_sent _ _ refl refl;
}

pub opener_in_comment : (p : Program) → IsSentOtherwiseBy p (codes "/*/*!*/;5") construct.OpenerInComment 0
unfolding is_client_word pass_on pass_as_is pass_with_next owe send end_line
opener_in_comment mysql = record {
  found = refl;
  otherwise = differ one_is_sent _ _ refl refl;
}
opener_in_comment mariadb = record {
  found = refl;
  otherwise = differ one_is_sent _ _ refl refl;
}

pub escaped_newline : (p : Program) → IsSentOtherwiseBy p (codes "'\\\n'") construct.EscapedNewline 0
unfolding is_client_word pass_on pass_as_is pass_with_next owe send end_line
escaped_newline mysql = record {
  found = refl;
  otherwise = differ (has_length 3) _ _ refl refl;
}
escaped_newline mariadb = record {
  found = refl;
  otherwise = differ (has_length 3) _ _ refl refl;
}

pub delimiter : (p : Program) → IsSentOtherwiseBy p (codes "5\ndelimiter\n5") construct.Delimiter 2
unfolding is_client_word pass_on pass_as_is pass_with_next owe send end_line
delimiter mysql = record {
  found = refl;
  otherwise = differ (has_length 12) _ _ refl refl;
}
delimiter mariadb = record {
  found = refl;
  otherwise = differ (has_length 12) _ _ refl refl;
}

pub client_command : (p : Program) → IsSentOtherwiseBy p (codes "5\\g") construct.ClientCommand 1
unfolding is_client_word pass_on pass_as_is pass_with_next owe send end_line
client_command mysql = record {
  found = refl;
  otherwise = differ (λ s. s.comes_to_command) _ _ refl refl;
}
client_command mariadb = record {
  found = refl;
  otherwise = differ (λ s. s.comes_to_command) _ _ refl refl;
}

pub client_word : IsSentOtherwiseBy mariadb (codes "use a") construct.ClientWord 0
unfolding is_client_word pass_on pass_as_is pass_with_next owe send end_line
client_word = record {
  found = refl;
  otherwise = differ (λ s. s.comes_to_command) _ _ refl refl;
}

pub dash_in_front : IsSentOtherwiseBy mariadb (codes "--a\n5") construct.DashInFront 0
unfolding is_client_word pass_on pass_as_is pass_with_next owe send end_line
dash_in_front = record {
  found = refl;
  otherwise = differ_so one_is_sent _ _ refl refl;
}

pub mark_in_front : IsSentOtherwiseBy mariadb (codes "?") construct.ClientWord 0
unfolding is_client_word pass_on pass_as_is pass_with_next owe send end_line
mark_in_front = record { found = refl; otherwise = differ (λ s. s.comes_to_command) _ _ refl refl }

pub backslash_at_end : (p : Program) → IsSentOtherwiseBy p (codes "'a\\") construct.EscapedNewline 0
unfolding is_client_word pass_on pass_as_is pass_with_next owe send end_line
backslash_at_end mysql = record { found = refl; otherwise = differ (has_length 2) _ _ refl refl }
backslash_at_end mariadb = record { found = refl; otherwise = differ (has_length 2) _ _ refl refl }

-- ---- a space within a word

pub joining_comment : (p : Program) → Sends p (codes "/**/" ++ 195 ∷ 169 ∷ 97 ∷ []) ((codes "/**/" ++ 195 ∷ 169 ∷ 32 ∷ 97 ∷ []) ∷ [])
unfolding is_client_word pass_on pass_as_is pass_with_next owe send end_line
joining_comment mysql = refl
joining_comment mariadb = refl

pub joining_after_end : (p : Program) → Sends p (codes "/**/;" ++ 195 ∷ 169 ∷ 97 ∷ []) (codes "/**/" ∷ (195 ∷ 169 ∷ 32 ∷ 97 ∷ []) ∷ [])
unfolding is_client_word pass_on pass_as_is pass_with_next owe send end_line
joining_after_end mysql = refl
joining_after_end mariadb = refl

pub nothing_after_end : first_unportable_in_client (tokens_of with_backslashes (codes "/**/;" ++ 195 ∷ 169 ∷ 97 ∷ [])) ≡ None
unfolding is_client_word
nothing_after_end = refl

-- ---- spaces at a hint

pub nothing_at_hint : first_unportable_in_client (tokens_of with_backslashes (codes "/**//*+b*/,c")) ≡ None
unfolding is_client_word
nothing_at_hint = refl

pub hint : Sends mariadb (codes "/**//*+b*/,c") (codes "/**//* +b*/ ,c" ∷ [])
unfolding is_client_word pass_on pass_as_is pass_with_next owe send end_line
hint = refl
