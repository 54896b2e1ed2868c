-- A fragment, by its shape only: its tokens, and the facts about them.
use Rattle.std.specs.Prelude.{Bool}
use Rattle.std.proofs.Common.{◌≡◌, ◌+◌, ◌++◌, ◌==◌, ◌&&◌, ◌||◌, not, ℕ, true, false, List, [], ◌∷◌, if◌then◌else◌, None, arith, inl, inr, refl, ap, ◌∙◌, sym, subst, append-nil, append_assoc, true≢false}
use Rattle.std.specs.Char.{is_ascii_alphabetic}
use Rattle.std.specs.List.{list_all}
use Rattle.std.specs.Str.{byte}
use Rattle.std.proofs.lemmas.Bool.{and_parts, and_from, cases_Bool, eqb-true, or_from, or_parts}
use Rattle.std.proofs.lemmas.Bool.Decides.{nat_tests}
use Rattle.mysql_named_params.specs.Bytes.{backquote, colon, dash, point, space, underscore, is_start_byte, HoldsOnlyAtEnd, IsUpTo, up_to_word}
use Rattle.mysql_named_params.specs.Tokens.{Token, IsToken, AreTokensBefore, text_of, text_then, QuotedIdentifier, Mark, Plain}
use Rattle.mysql_named_params.specs.Places.{names, place_count}
use Rattle.mysql_named_params.proofs.TokenEnds.{plain_at}
use Rattle.mysql_named_params.proofs.TokenRowLemmas.{text_then-append, text_then-text_of, text_of-append, AreTokensBefore-append, names-append, marks-append, place_count-append}
use Rattle.mysql_portable.specs.Server.{escapes_backquote}
use Rattle.mysql_portable.specs.FoundInClient.{found_in_client}
use Rattle.mysql_portable.proofs.PortableLemmas.{false_if, is_alike_on_all}
use Rattle.mysql_portable.proofs.OtherModeLemmas.{all_parts}
use Rattle.mysql_binding.specs.StandsAlone.{may_stand_before, none_or_first}
use Rattle.mysql_binding.proofs.BoundStatementLemmas.{StayWithin, StayWithin-append}
use Rattle.mysql_binding.proofs.LiteralTokenLemmas.{AreSettledBefore, AreSettledBefore-append, no_double, plain_tokens, other, plain_text, plain_places, is_alphanumeric-plain, alphanumeric_portable, alphanumeric_single, is_alphanumeric}
use Rattle.mysql_sql_text.specs.InLine.{is_in_line}
use Rattle.mysql_binding.proofs.SentLiteralLemmas.{no_zero, quotes_found}
use Rattle.mysql_binding.proofs.SentTextLemmas.{AreSentExceptMarksBefore, statement_after, line_after}
use Rattle.std.proofs.lemmas.List.Folds.{list_all-append}
use Rattle.mysql_binding.proofs.UpToSpliceLemmas.{joins_nothing, opens_nothing_after}
use Rattle.mysql_fragments.specs.FragmentFaults.{escapes_end, is_keyword, is_keyword_from}
use Rattle.mysql_fragments.specs.FragmentShape.{IsIdentifier, one_name, more_names, IsFragment, mark_fragment, literal_fragment, steady_fragment, decimal_fragment, negative_decimal_fragment, double_fragment, identifier_fragment, keyword_fragment, assignment_fragment, list_fragment, row_fragment}
use Rattle.mysql_fragments.specs.FragmentText.{doubled, identifier_text}
use Rattle.mysql_fragments.proofs.FragmentListLemmas.{IsFragmentList, decimal_list, decimal_tokens, double_list, literal_list, steady_list, mark_list, negative_list, no_marks, placeless_alone}
use Rattle.mysql_binding.proofs.RenamedPlaceLemmas.{last-append}
use Rattle.mysql_named_params.proofs.FoundPlaceLemmas.{names-no_place}

-- ---- an identifier

pub not_quote : ℕ → Bool
not_quote b = not (b == backquote)

-- a run without a backquote, and one after it
run_ends : (run : List ℕ) → list_all not_quote run ≡ true → HoldsOnlyAtEnd (backquote ∷ []) (run ++ backquote ∷ [])
unfolding not_quote
run_ends [] all [] back e = cc
run_ends [] all (c ∷ []) back e = cc
run_ends [] all (c ∷ c' ∷ front) back e = cc
run_ends (b ∷ run) all [] back e =
    let p = and_parts (not_quote b) (list_all not_quote run) all in
    let same : backquote ≡ b = cc in
    absurd (true≢false (sym p.0 ∙ ap (λ x. not (x == backquote)) (sym same)))
run_ends (b ∷ run) all (c ∷ front) back e =
    let p = and_parts (not_quote b) (list_all not_quote run) all in
    run_ends run p.1 front back cc

-- the tokens of the text in backquotes, if this run is before the name
pub identifier_tokens : List ℕ → List ℕ → List Token
identifier_tokens run [] = QuotedIdentifier (run ++ backquote ∷ []) ∷ []
identifier_tokens run (b ∷ bs) =
    if b == backquote
    then QuotedIdentifier (run ++ backquote ∷ []) ∷ identifier_tokens [] bs
    else identifier_tokens (run ++ b ∷ []) bs

quoted_before : (mode : Bool) (run rest : List ℕ) → list_all not_quote run ≡ true →
    IsUpTo (backquote ∷ []) (run ++ backquote ∷ []) rest
quoted_before mode run rest all = up_to_word run refl (run_ends run all)

run_more : (run : List ℕ) (b : ℕ) → list_all not_quote run ≡ true → (b == backquote) ≡ false →
    list_all not_quote (run ++ b ∷ []) ≡ true
unfolding not_quote
run_more [] b all e = rw e refl
run_more (c ∷ run) b all e = let p = and_parts (not_quote c) (list_all not_quote run) all in and_from _ _ p.0 (run_more run b p.1 e)

-- all that is known of them, by induction
pub record IsQuotedRun (mode : Bool) (run name : List ℕ) (list : List Token) : Type 0 where
  pub run_text : text_of list ≡ backquote ∷ (run ++ (doubled name ++ backquote ∷ []))
  pub run_tokens : (rest : List ℕ) → AreTokensBefore mode rest list
  pub run_settled : (rest : List ℕ) → AreSettledBefore rest list
  pub run_within : StayWithin list
  pub run_sent : list_all is_in_line (run ++ name) ≡ true → (rest : List ℕ) (statement line : Bool) →
      AreSentExceptMarksBefore rest statement line list
  pub run_statement : (statement : Bool) → statement_after statement list ≡ false
  pub run_line : (line : Bool) → line_after line list ≡ false
  pub run_places : place_count list ≡ 0

-- the run up to its backquote, if nothing or a backquote follows it in the name
run_plain : (run ys : List ℕ) → none_or_first (λ c. c == backquote) ys ≡ true → escapes_end (run ++ ys) ≡ false →
    escapes_backquote (run ++ backquote ∷ []) ≡ false
run_plain [] ys f h = refl
run_plain (b ∷ []) ys f h =
    let p = or_parts (b == byte "\\" && none_or_first (λ c. c == backquote) ys) (escapes_end ys) h in
    false_if (not (b == backquote)) _ (λ e. or_from _ _ (rw f at p.0) refl)
run_plain (b ∷ c ∷ run) ys f h =
    let p = or_parts (b == byte "\\" && c == backquote) (escapes_end (c ∷ (run ++ ys))) h in
    false_if (not (b == backquote)) _ (λ e. or_from _ _ p.0 (run_plain (c ∷ run) ys f p.1))

-- the rest of a name after a byte
later_plain : (run : List ℕ) (b : ℕ) (bs : List ℕ) → escapes_end (run ++ b ∷ bs) ≡ false → escapes_end bs ≡ false
later_plain [] b bs h = (or_parts (b == byte "\\" && none_or_first (λ c. c == backquote) bs) (escapes_end bs) h).1
later_plain (x ∷ run) b bs h =
    later_plain run b bs ((or_parts (x == byte "\\" && none_or_first (λ c. c == backquote) (run ++ b ∷ bs)) (escapes_end (run ++ b ∷ bs)) h).1)

pub doubled_quote : (b : ℕ) (bs : List ℕ) → (b == backquote) ≡ true → doubled (b ∷ bs) ≡ b ∷ b ∷ doubled bs
doubled_quote b bs e = rw e refl

pub doubled_other : (b : ℕ) (bs : List ℕ) → (b == backquote) ≡ false → doubled (b ∷ bs) ≡ b ∷ doubled bs
doubled_other b bs e = rw e refl

-- a name in a line is sent as it is
identifier_found : (run rest : List ℕ) (statement line : Bool) → list_all is_in_line run ≡ true →
    found_in_client statement line (QuotedIdentifier (run ++ backquote ∷ [])) rest ≡ None
identifier_found run rest statement line k =
    let t : list_all is_in_line (run ++ backquote ∷ []) ≡ true = list_all-append is_in_line run (backquote ∷ []) ∙ and_from _ _ k refl in
    rw (no_zero (run ++ backquote ∷ []) t) (quotes_found run backquote refl t)

pub quoted_run : (mode : Bool) (run name : List ℕ) → list_all not_quote run ≡ true → escapes_end (run ++ name) ≡ false →
    IsQuotedRun mode run name (identifier_tokens run name)
unfolding identifier_tokens
quoted_run mode run [] all plain = record {
  run_text = append-nil (backquote ∷ (run ++ backquote ∷ []));
  run_tokens = λ rest. (quoted_before mode run rest all, tt);
  run_settled = λ rest. (ap not (run_plain run [] refl plain), refl, tt);
  run_within = (refl, tt);
  run_sent = λ k rest statement line. (identifier_found run rest statement line (all_parts is_in_line run [] k).0, tt);
  run_statement = λ statement. refl;
  run_line = λ line. refl;
  run_places = refl;
}
quoted_run mode run (b ∷ bs) all plain =
    elim (cases_Bool (b == backquote)) [
      | inl e ↦
          let h = quoted_run mode [] bs refl (later_plain run b bs plain) in
          rw e (record {
            run_text = ap (λ x. backquote ∷ ((run ++ backquote ∷ []) ++ x)) h.run_text ∙ (ap (λ x. backquote ∷ x) (append_assoc run (backquote ∷ []) _) ∙ (ap (λ x. backquote ∷ (run ++ (x ∷ x ∷ (doubled bs ++ backquote ∷ [])))) (sym (eqb-true b backquote e)) ∙ ap (λ x. backquote ∷ (run ++ (x ++ backquote ∷ []))) (sym (doubled_quote b bs e))));
            run_tokens = λ rest. (quoted_before mode run _ all, h.run_tokens rest);
            run_settled = λ rest. (ap not (run_plain run (b ∷ bs) e plain), refl, h.run_settled rest);
            run_within = (refl, h.run_within);
            run_sent = λ k rest statement line. (
              identifier_found run (text_then rest (identifier_tokens [] bs)) statement line (all_parts is_in_line run (b ∷ bs) k).0,
              h.run_sent (and_parts (is_in_line b) (list_all is_in_line bs) (all_parts is_in_line run (b ∷ bs) k).1).1 rest false false,
            );
            run_statement = λ statement. h.run_statement false;
            run_line = λ line. h.run_line false;
            run_places = h.run_places;
          })
      | inr e ↦
          let h = quoted_run mode (run ++ b ∷ []) bs (run_more run b all e) (subst (λ x. escapes_end x ≡ false) (sym (append_assoc run (b ∷ []) bs)) plain) in
          rw e (record {
            run_text = h.run_text ∙ (ap (λ x. backquote ∷ x) (append_assoc run (b ∷ []) _) ∙ ap (λ x. backquote ∷ (run ++ (x ++ backquote ∷ []))) (sym (doubled_other b bs e)));
            run_tokens = h.run_tokens;
            run_settled = h.run_settled;
            run_within = h.run_within;
            run_sent = λ k. h.run_sent (subst (λ x. list_all is_in_line x ≡ true) (sym (append_assoc run (b ∷ []) bs)) k);
            run_statement = h.run_statement;
            run_line = h.run_line;
            run_places = h.run_places;
          })
    ]

-- the first byte of identifiers, and their tokens
record IsIdentifierList (mode : Bool) (text : List ℕ) (list : List Token) : Type 0 where
  path_text : text_of list ≡ text
  path_tokens : (rest : List ℕ) → AreTokensBefore mode rest list
  path_settled : (rest : List ℕ) → AreSettledBefore rest list
  path_within : StayWithin list
  path_places : place_count list ≡ 0
  path_more : List ℕ
  path_begins : text ≡ backquote ∷ path_more

name_list : (mode : Bool) (name : List ℕ) → escapes_end name ≡ false → IsIdentifierList mode (identifier_text name) (identifier_tokens [] name)
name_list mode name plain =
    let h = quoted_run mode [] name refl plain in
    record {
      path_text = h.run_text;
      path_tokens = h.run_tokens;
      path_settled = h.run_settled;
      path_within = h.run_within;
      path_places = h.run_places;
      path_more = doubled name ++ backquote ∷ [];
      path_begins = refl;
    }

-- a point before a backquote begins no fraction
point_settled : (text more : List ℕ) → text ≡ backquote ∷ more → is_alike_on_all (Plain point) text ≡ true
point_settled text more e = rw e refl

path_list : (mode : Bool) {text : List ℕ} → IsIdentifier text → (list : List Token) × IsIdentifierList mode text list
path_list mode (one_name name plain) = (identifier_tokens [] name, name_list mode name plain)
path_list mode (more_names name more plain h) =
    let a = name_list mode name plain in
    let b = path_list mode h in
    let us : List Token = identifier_tokens [] name in
    let vs : List Token = Plain point ∷ b.0 in (
      us ++ vs,
      record {
        path_text = text_of-append us vs ∙ (ap (λ z. z ++ text_of vs) a.path_text ∙ ap (λ z. identifier_text name ++ (point ∷ z)) b.1.path_text);
        path_tokens = λ rest. AreTokensBefore-append mode us vs rest (a.path_tokens _) (plain_at mode point _ refl, b.1.path_tokens rest);
        path_settled = λ rest. AreSettledBefore-append us vs rest (a.path_settled _) (point_settled (text_then rest b.0) (b.1.path_more ++ rest) (text_then-text_of b.0 rest ∙ ap (λ z. z ++ rest) (b.1.path_text ∙ b.1.path_begins)), refl, b.1.path_settled rest);
        path_within = StayWithin-append us vs a.path_within (refl, b.1.path_within);
        path_places = rw (place_count-append us vs, a.path_places, b.1.path_places) refl;
        path_more = (doubled name ++ backquote ∷ []) ++ (point ∷ more);
        path_begins = refl;
      },
    )

identifier_list : (mode : Bool) {text : List ℕ} → IsIdentifier text → (list : List Token) × IsFragmentList mode 0 text list
identifier_list mode h =
    let p = path_list mode h in (
      p.0,
      record {
        list_text = p.1.path_text;
        list_tokens = p.1.path_tokens;
        list_opens = λ before rest b. rw (text_then-text_of p.0 rest, p.1.path_text, p.1.path_begins) refl;
        list_settled = λ rest f. p.1.path_settled rest;
        list_alone = placeless_alone p.0 p.1.path_places;
        list_within = p.1.path_within;
        list_names = names-no_place p.0 p.1.path_places;
        list_marks = no_marks p.0 p.1.path_places;
      },
    )

-- ---- a keyword

-- a byte of a keyword
unfoldable pub is_word_byte : ℕ → Bool
is_word_byte b = is_alphanumeric b || (b == underscore || b == space)

pub word_plain : (mode : Bool) (b : ℕ) → is_word_byte b ≡ true → (rest : List ℕ) → IsToken mode (Plain b) rest
unfolding is_word_byte
word_plain mode b h rest =
    elim (cases_Bool (is_alphanumeric b)) [
      | inl e ↦ is_alphanumeric-plain mode b e rest
      | inr e ↦ elim (cases_Bool (b == underscore)) [
        | inl f ↦ subst (λ x. IsToken mode (Plain x) rest) (sym (eqb-true b underscore f)) (plain_at mode underscore rest refl)
        | inr f ↦ subst (λ x. IsToken mode (Plain x) rest) (sym (eqb-true b space (rw (e, f) at h))) (plain_at mode space rest refl)
      ]
    ]

word_settled : (b : ℕ) → is_word_byte b ≡ true → (rest : List ℕ) →
    (is_alike_on_all (Plain b) rest ≡ true) × (no_double (Plain b) rest ≡ true)
unfolding is_word_byte
word_settled b h rest =
    elim (cases_Bool (is_alphanumeric b)) [
      | inl e ↦ (alphanumeric_portable b e rest, alphanumeric_single b e rest)
      | inr e ↦ elim (cases_Bool (b == underscore)) [
        | inl f ↦ subst (λ x. (is_alike_on_all (Plain x) rest ≡ true) × (no_double (Plain x) rest ≡ true)) (sym (eqb-true b underscore f)) (refl, refl)
        | inr f ↦ subst (λ x. (is_alike_on_all (Plain x) rest ≡ true) × (no_double (Plain x) rest ≡ true)) (sym (eqb-true b space (rw (e, f) at h))) (refl, refl)
      ]
    ]

words_before : (mode : Bool) (bytes : List ℕ) → list_all is_word_byte bytes ≡ true → (rest : List ℕ) →
    AreTokensBefore mode rest (plain_tokens bytes)
words_before mode [] h rest = tt
words_before mode (b ∷ bytes) h rest =
    let p = and_parts (is_word_byte b) (list_all is_word_byte bytes) h in
    (word_plain mode b p.0 _, words_before mode bytes p.1 rest)

words_settled : (bytes : List ℕ) → list_all is_word_byte bytes ≡ true → (rest : List ℕ) →
    AreSettledBefore rest (plain_tokens bytes)
words_settled [] h rest = tt
words_settled (b ∷ bytes) h rest =
    let p = and_parts (is_word_byte b) (list_all is_word_byte bytes) h in
    let s = word_settled b p.0 (text_then rest (plain_tokens bytes)) in
    (s.0, s.1, words_settled bytes p.1 rest)

words_within : (bytes : List ℕ) → list_all is_word_byte bytes ≡ true → StayWithin (plain_tokens bytes)
unfolding is_word_byte
words_within [] h = tt
words_within (b ∷ bytes) h =
    let p = and_parts (is_word_byte b) (list_all is_word_byte bytes) h in
    (rw (other is_word_byte b (byte ";") p.0 refl) refl, words_within bytes p.1)

-- a letter, by both tests
letter_alphanumeric : (b : ℕ) → is_ascii_alphabetic b ≡ true → is_alphanumeric b ≡ true
letter_alphanumeric b h = grind (arith, nat_tests)

letter_joins_nothing : (b : ℕ) → is_ascii_alphabetic b ≡ true → joins_nothing b ≡ true
letter_joins_nothing b h = grind (arith, nat_tests)

or_left : (a b : Bool) → a ≡ true → (a || b) ≡ true
or_left true b e = refl
or_left false b e = absurd (true≢false (sym e))

letter_word : (b : ℕ) → is_ascii_alphabetic b ≡ true → is_word_byte b ≡ true
unfolding is_word_byte
letter_word b h = or_left _ _ (letter_alphanumeric b h)

pub keyword_bytes : (begun : Bool) (bytes : List ℕ) → is_keyword_from begun bytes ≡ true → list_all is_word_byte bytes ≡ true
unfolding is_word_byte
keyword_bytes begun [] h = refl
keyword_bytes begun (b ∷ bytes) h =
    elim (cases_Bool (is_ascii_alphabetic b)) [
      | inl e ↦ and_from _ _ (letter_word b e) (keyword_bytes true bytes (rw e at h))
      | inr e ↦ elim (cases_Bool (b == underscore)) [
        | inl f ↦
            let k : (begun && is_keyword_from true bytes) ≡ true = rw (e, f) at h in
            and_from _ _ (subst (λ x. is_word_byte x ≡ true) (sym (eqb-true b underscore f)) refl) (keyword_bytes true bytes (and_parts begun _ k).1)
        | inr f ↦
            let k : (((b == space) && begun) && is_keyword_from false bytes) ≡ true = rw (e, f) at h in
            let p = and_parts ((b == space) && begun) (is_keyword_from false bytes) k in
            and_from _ _ (subst (λ x. is_word_byte x ≡ true) (sym (eqb-true b space (and_parts (b == space) begun p.0).0)) refl) (keyword_bytes false bytes p.1)
      ]
    ]

-- it begins with a letter
pub keyword_first : (b : ℕ) (bytes : List ℕ) → is_keyword (b ∷ bytes) ≡ true → is_ascii_alphabetic b ≡ true
keyword_first b bytes h =
    elim (cases_Bool (is_ascii_alphabetic b)) [
      | inl e ↦ e
      | inr e ↦ elim (cases_Bool (b == underscore)) [
        | inl f ↦ let k : false ≡ true = rw (e, f) at h in absurd (true≢false (sym k))
        | inr f ↦
            let k : (((b == space) && false) && is_keyword_from false bytes) ≡ true = rw (e, f) at h in
            absurd (true≢false (sym (and_parts (b == space) false (and_parts _ _ k).0).1))
      ]
    ]

and_false : (a : Bool) → (a && false) ≡ false
and_false true = refl
and_false false = refl

-- after a byte that may be before a place, a letter opens nothing
letter_opens : (before b : ℕ) (bs : List ℕ) → is_ascii_alphabetic b ≡ true → may_stand_before before ≡ true →
    opens_nothing_after before (b ∷ bs) ≡ true
letter_opens before b bs l h =
    or_left _ _ (and_from _ _ (letter_joins_nothing b l) (ap not (ap (λ x. is_start_byte b && x) (other may_stand_before before colon h refl) ∙ and_false (is_start_byte b))))

keyword_list : (mode : Bool) (text : List ℕ) → is_keyword text ≡ true → (list : List Token) × IsFragmentList mode 0 text list
keyword_list mode [] h = absurd (true≢false (sym h))
keyword_list mode (b ∷ bytes) h =
    let all = keyword_bytes false (b ∷ bytes) h in
    let l = keyword_first b bytes h in (
      plain_tokens (b ∷ bytes),
      record {
        list_text = plain_text (b ∷ bytes);
        list_tokens = λ rest. words_before mode (b ∷ bytes) all rest;
        list_opens = λ before rest s. letter_opens before b (text_then rest (plain_tokens bytes)) l s;
        list_settled = λ rest f. words_settled (b ∷ bytes) all rest;
        list_within = words_within (b ∷ bytes) all;
        list_alone = placeless_alone (plain_tokens (b ∷ bytes)) (plain_places bytes);
        list_names = names-no_place (plain_tokens (b ∷ bytes)) (plain_places bytes);
        list_marks = no_marks (plain_tokens (b ∷ bytes)) (plain_places bytes);
      },
    )

-- ---- one after another, and in brackets

abbrev pub comma_then : List Token → List Token
comma_then list = Plain (byte ",") ∷ Plain (byte " ") ∷ list

pub list_list : (mode : Bool) (n k : ℕ) (a b : List ℕ) (us vs : List Token) → IsFragmentList mode n a us →
    IsFragmentList mode k b vs → IsFragmentList mode (n + k) (a ++ (byte "," ∷ byte " " ∷ b)) (us ++ comma_then vs)
list_list mode n k a b us vs x y = record {
  list_text = text_of-append us (comma_then vs) ∙ (ap (λ z. z ++ text_of (comma_then vs)) x.list_text ∙ ap (λ z. a ++ (byte "," ∷ byte " " ∷ z)) y.list_text);
  list_tokens = λ rest. AreTokensBefore-append mode us (comma_then vs) rest (x.list_tokens _) (plain_at mode (byte ",") _ refl, (plain_at mode (byte " ") _ refl, y.list_tokens rest));
  list_opens = λ before rest s. rw (text_then-append us (comma_then vs) rest) (x.list_opens before _ s);
  list_settled = λ rest h. AreSettledBefore-append us (comma_then vs) rest (x.list_settled _ refl) (refl, refl, (refl, refl, y.list_settled rest h));
  list_alone = λ more first each place before last.
      rw (append_assoc us (comma_then vs) more)
      (x.list_alone (comma_then (vs ++ more)) refl
      (λ place before. y.list_alone more first each place ((before ++ byte "," ∷ []) ++ byte " " ∷ []) (last-append may_stand_before (before ++ byte "," ∷ []) (byte " ") []))
      place before last);
  list_within = StayWithin-append us (comma_then vs) x.list_within (refl, (refl, y.list_within));
  list_names = names-append us (comma_then vs) ∙ (ap (λ z. z ++ names vs) x.list_names ∙ y.list_names);
  list_marks = omega (arith, marks-append us (comma_then vs), x.list_marks, y.list_marks);
}

abbrev pub equals_then : List Token → List Token
equals_then list = Plain (byte " ") ∷ Plain (byte "=") ∷ Plain (byte " ") ∷ list

-- a column, ` = ` and the item that it is set to
pub assignment_list : (mode : Bool) (n : ℕ) (a b : List ℕ) (us vs : List Token) → IsFragmentList mode 0 a us →
    IsFragmentList mode n b vs → IsFragmentList mode n (a ++ (byte " " ∷ byte "=" ∷ byte " " ∷ b)) (us ++ equals_then vs)
assignment_list mode n a b us vs x y = record {
  list_text = text_of-append us (equals_then vs) ∙ (ap (λ z. z ++ text_of (equals_then vs)) x.list_text ∙ ap (λ z. a ++ (byte " " ∷ byte "=" ∷ byte " " ∷ z)) y.list_text);
  list_tokens = λ rest. AreTokensBefore-append mode us (equals_then vs) rest (x.list_tokens _) (plain_at mode (byte " ") _ refl, (plain_at mode (byte "=") _ refl, (plain_at mode (byte " ") _ refl, y.list_tokens rest)));
  list_opens = λ before rest s. rw (text_then-append us (equals_then vs) rest) (x.list_opens before _ s);
  list_settled = λ rest h. AreSettledBefore-append us (equals_then vs) rest (x.list_settled _ refl) (refl, refl, (refl, refl, (refl, refl, y.list_settled rest h)));
  list_alone = λ more first each place before last.
      rw (append_assoc us (equals_then vs) more)
      (x.list_alone (equals_then (vs ++ more)) refl
      (λ place before. y.list_alone more first each place (((before ++ byte " " ∷ []) ++ byte "=" ∷ []) ++ byte " " ∷ []) (last-append may_stand_before ((before ++ byte " " ∷ []) ++ byte "=" ∷ []) (byte " ") []))
      place before last);
  list_within = StayWithin-append us (equals_then vs) x.list_within (refl, (refl, (refl, y.list_within)));
  list_names = names-append us (equals_then vs) ∙ (ap (λ z. z ++ names vs) x.list_names ∙ y.list_names);
  list_marks = omega (arith, marks-append us (equals_then vs), x.list_marks, y.list_marks);
}

abbrev pub in_brackets : List Token → List Token
in_brackets list = Plain (byte "(") ∷ (list ++ Plain (byte ")") ∷ [])

pub row_list : (mode : Bool) (n : ℕ) (a : List ℕ) (us : List Token) → IsFragmentList mode n a us →
    IsFragmentList mode n (byte "(" ∷ (a ++ byte ")" ∷ [])) (in_brackets us)
row_list mode n a us x = record {
  list_text = ap (λ u. byte "(" ∷ u) (text_of-append us (Plain (byte ")") ∷ []) ∙ ap (λ u. u ++ byte ")" ∷ []) x.list_text);
  list_tokens = λ rest. (plain_at mode (byte "(") _ refl, AreTokensBefore-append mode us (Plain (byte ")") ∷ []) rest (x.list_tokens _) (plain_at mode (byte ")") _ refl, tt));
  list_opens = λ before rest s. refl;
  list_settled = λ rest h. (refl, refl, AreSettledBefore-append us (Plain (byte ")") ∷ []) rest (x.list_settled _ refl) (refl, refl, tt));
  list_alone = λ more first each place before last.
      rw (append_assoc us (Plain (byte ")") ∷ []) more)
      (x.list_alone (Plain (byte ")") ∷ more) refl
      (λ place before. each place (before ++ byte ")" ∷ []))
      place (before ++ byte "(" ∷ []) (last-append may_stand_before before (byte "(") []));
  list_within = (refl, StayWithin-append us (Plain (byte ")") ∷ []) x.list_within (refl, tt));
  list_names = names-append us (Plain (byte ")") ∷ []) ∙ (ap (λ z. z ++ []) x.list_names);
  list_marks = omega (arith, marks-append us (Plain (byte ")") ∷ []), x.list_marks);
}

pub fragment_list_of : (mode : Bool) {n : ℕ} {text : List ℕ} → IsFragment mode n text →
    (list : List Token) × IsFragmentList mode n text list
fragment_list_of mode mark_fragment = (Mark ∷ [], mark_list mode)
fragment_list_of mode (literal_fragment literal h) = literal_list mode literal h
fragment_list_of mode (steady_fragment literal h s) = steady_list mode literal h s
fragment_list_of mode (decimal_fragment whole fraction w f) = (decimal_tokens whole fraction, decimal_list whole fraction w f mode)
fragment_list_of mode (negative_decimal_fragment whole fraction w f) = (Plain dash ∷ decimal_tokens whole fraction, negative_list mode whole fraction w f)
fragment_list_of mode (double_fragment text h) = double_list mode text h
fragment_list_of mode (identifier_fragment text h) = identifier_list mode h
fragment_list_of mode (keyword_fragment text h) = keyword_list mode text h
fragment_list_of mode (assignment_fragment n column value c v) =
    let x = identifier_list mode c in
    let y = fragment_list_of mode v in
    (x.0 ++ equals_then y.0, assignment_list mode n column value x.0 y.0 x.1 y.1)
fragment_list_of mode (list_fragment n k first more a b) =
    let x = fragment_list_of mode a in
    let y = fragment_list_of mode b in
    (x.0 ++ comma_then y.0, list_list mode n k first more x.0 y.0 x.1 y.1)
fragment_list_of mode (row_fragment n inner a) =
    let x = fragment_list_of mode a in
    (in_brackets x.0, row_list mode n inner x.0 x.1)
