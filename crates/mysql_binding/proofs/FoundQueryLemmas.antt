-- The parts that are kept of a query in a reading, by the view of a query in a mode.
use Rattle.std.specs.Prelude.{◌≡◌, Bool, List, ℕ}
use Rattle.std.proofs.Common.{◌∙◌, ap, subst}
use Rattle.mysql_named_params.specs.Tokens.{Token}
use Rattle.mysql_named_params.specs.Reading.{OnTokensIn}
use Rattle.mysql_named_params.specs.declared.places.Reading.{Reading}
use Rattle.mysql_named_params.specs.declared.places.FoundPlace.{FoundPlace}
use Rattle.mysql_named_params.proofs.ReadingLemmas.{one_reading, reading_exists}
use Rattle.mysql_binding.specs.FoundPlaces.{found_places}
use Rattle.mysql_binding.specs.ParsedQuery.{AreParsed, QueryInMode}
use Rattle.mysql_binding.specs.Survey.{IsSurvey, IsSurveyOf}
use Rattle.mysql_binding.specs.declared.binding.survey.Survey.{Survey}

-- the reading in a mode, with wide names or without
abbrev pub reading_of : Bool → Bool → Reading
reading_of wide mode = record { no_backslash_escape = mode; wide_names = wide }

module _ (wide : Bool) (reading : Reading) (query : List ℕ) (seen : QueryInMode) (is : reading.wide_names ≡ wide) (view_is : record { mode = reading.no_backslash_escape; query = query } ≡ seen) where
  pub reading_is : reading ≡ reading_of wide reading.no_backslash_escape
  reading_is = ap (λ (w : Bool). reading_of w reading.no_backslash_escape) is

  pub reading_seen : reading ≡ reading_of wide seen.mode
  reading_seen = subst (λ (q : QueryInMode). reading ≡ reading_of wide q.mode) view_is reading_is

  -- a fact about a query in its reading is a fact about its view
  pub seen_on : (P : List Token → Type 0) → OnTokensIn reading query P →
      OnTokensIn (reading_of wide seen.mode) seen.query P
  seen_on P o =
      subst (λ (q : QueryInMode). OnTokensIn (reading_of wide q.mode) q.query P) view_is
      (subst (λ (r : Reading). OnTokensIn r query P) reading_is o)

-- the survey and the places that are kept of a query, for its one list of tokens
pub on_parsed : (survey : Survey) (places : List FoundPlace) (reading : Reading) (query : List ℕ) →
    AreParsed survey places reading query →
    OnTokensIn reading query (λ ts. IsSurvey survey ts × (places ≡ found_places ts))
on_parsed survey places reading query kept =
    let t = reading_exists reading query in
    (t.0, t.1, kept t.0 t.1)

pub is_parsed : (survey : Survey) (places : List FoundPlace) (reading : Reading) (query : List ℕ) →
    IsSurveyOf reading query survey → OnTokensIn reading query (λ ts. places ≡ found_places ts) →
    AreParsed survey places reading query
is_parsed survey places reading query surveyed all ts is =
    (surveyed ts is, all.2 ∙ ap found_places (one_reading reading query all.0 ts all.1 is))
