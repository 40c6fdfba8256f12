-- The lines that a page may say. Defined by this project.
use Rattle.std.specs.Prelude.{Bool, true, false}
use Rattle.bidi_sessions.specs.Step.{Step, At, Open, Drop, Text, NotText, Page}
use Rattle.bidi_script_lines.specs.ScriptLines.{Line, Plain}

-- the step is one of a page, or sets the clock
abbrev pub is_step_of_pages : Step → Bool
is_step_of_pages (At n) = true
is_step_of_pages (Open c resource) = false
is_step_of_pages (Drop c) = false
is_step_of_pages (Text c text) = false
is_step_of_pages (NotText c) = false
is_step_of_pages (Page page) = true

-- the line is a step of a page, or one by which a test answers, holds, sends and cuts
abbrev pub is_said_by_pages : Line → Bool
is_said_by_pages (Plain step) = is_step_of_pages step
is_said_by_pages l = true
