-- The alternatives of a script's result, and those of a row of a play's table.
use Rattle.bidi_shape.specs.Name.{remote_value, exception_details}
use Rattle.bidi_shape.specs.Term.{Term, text, js_uint, rule, closed_map, ◌is◌and◌, the, no_more}

-- the result of a script that ran to its end
abbrev pub evaluate_success : Term
evaluate_success = closed_map (
    "type" is the "success" and
    "result" is rule remote_value and
    "realm" is text and no_more)

-- the result of a script that threw
abbrev pub evaluate_exception : Term
evaluate_exception = closed_map (
    "type" is the "exception" and
    "exceptionDetails" is rule exception_details and
    "realm" is text and no_more)

-- the row of a script that returns a value
abbrev pub returns_row : Term
returns_row = closed_map (
    "text" is text and
    "returns" is rule remote_value and no_more)

-- the row of a script that throws a value
abbrev pub throws_row : Term
throws_row = closed_map (
    "text" is text and
    "throws" is rule remote_value and no_more)

-- the row of a script that returns one of its arguments
abbrev pub argument_row : Term
argument_row = closed_map (
    "text" is text and
    "argument" is js_uint and no_more)
