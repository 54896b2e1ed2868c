use Rattle.mysql_sql_text.proofs.ValueOfDigitsLemmas.{parsed-found, parsed-refused}
use Rattle.mysql_sql_text.proofs.digits.value_of_digits.Goals as goal

pub returns-clause-found : goal.returns-clause-found
returns-clause-found c = parsed-found c.args.digits.now c.parsed_number.result c.parsed_number.ensures

pub returns-clause-refused : goal.returns-clause-refused
returns-clause-refused c =
    parsed-refused c.args.digits.now c.parsed_number.result c.parsed_number.ensures
