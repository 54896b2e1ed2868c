-- A word of a client is known by its letters: two texts that begin with the same whole words begin
-- with the same words of a client.
use Rattle.std.specs.Prelude.{Bool, codes, nat_le}
use Rattle.std.proofs.Common.{◌≡◌, ◌==◌, ◌&&◌, ◌||◌, ◌∙◌, ℕ, true, List, [], if◌then◌else◌, refl, ap}
use Rattle.std.specs.List.{list_all}
use Rattle.std.specs.Str.{byte}
use Rattle.mysql_named_params.specs.Bytes.{question_mark, underscore}
use Rattle.mysql_portable.specs.FoundInClient.{begins_whole_word, is_client_word, is_word_of_mariadb, is_word_of_mysql}

-- a byte of the clients' words, which are in lower case, or `?`
abbrev pub is_word_letter : ℕ → Bool
is_word_letter b = (nat_le (byte "a") b && nat_le b (byte "z")) || (b == underscore || b == question_mark)

either : {a a' b b' : Bool} → a ≡ a' → b ≡ b' → (a || b) ≡ (a' || b')
either {a' = a'} {b = b} e g = ap (λ z. z || b) e ∙ ap (λ z. a' || z) g

choice : (c : Bool) {a a' b b' : Bool} → a ≡ a' → b ≡ b' → (if c then a else b) ≡ (if c then a' else b')
choice c {a' = a'} {b = b} e g = ap (λ z. if c then z else b) e ∙ ap (λ z. if c then a' else z) g

module _ (x y : List ℕ) (same : (word : List ℕ) → list_all is_word_letter word ≡ true → begins_whole_word word x ≡ begins_whole_word word y) where
  mariadb_same : (letter : ℕ) → is_word_of_mariadb letter x ≡ is_word_of_mariadb letter y
  mariadb_same letter =
      choice (letter == byte "c") (either (same (codes "harset") refl) (either (same (codes "lear") refl) (either (same (codes "onnect") refl) (same (codes "osts") refl))))
      (choice (letter == byte "e") (either (same (codes "dit") refl) (either (same (codes "go") refl) (same (codes "xit") refl)))
      (choice (letter == byte "g") (same (codes "o") refl)
      (choice (letter == byte "h") (same (codes "elp") refl)
      (choice (letter == byte "n") (either (same (codes "opager") refl) (either (same (codes "otee") refl) (same (codes "owarning") refl)))
      (choice (letter == byte "p") (either (same (codes "ager") refl) (either (same (codes "rint") refl) (same (codes "rompt") refl)))
      (choice (letter == byte "q") (same (codes "uit") refl)
      (choice (letter == byte "r") (same (codes "ehash") refl)
      (choice (letter == byte "s") (either (same (codes "andbox") refl) (either (same (codes "ource") refl) (either (same (codes "tatus") refl) (same (codes "ystem") refl))))
      (choice (letter == byte "t") (same (codes "ee") refl)
      (choice (letter == byte "u") (same (codes "se") refl)
      (choice (letter == byte "w") (same (codes "arnings") refl) (ap (λ z. letter == question_mark && z) (same [] refl)))))))))))))

  mysql_same : (letter : ℕ) → is_word_of_mysql letter x ≡ is_word_of_mysql letter y
  mysql_same letter =
      choice (letter == byte "q") (same (codes "uery_attributes") refl)
      (choice (letter == byte "r") (same (codes "esetconnection") refl)
      (choice (letter == byte "s") (same (codes "sl_session_data_print") refl) refl))

  pub client_word_same : (letter : ℕ) → is_client_word letter x ≡ is_client_word letter y
  unfolding is_client_word
  client_word_same letter = either (mariadb_same letter) (mysql_same letter)
