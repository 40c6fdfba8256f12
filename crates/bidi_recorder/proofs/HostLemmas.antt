-- The lines that a host has played, after it took one more line or none.
use Rattle.std.proofs.Common.{◌≡◌, false, true, true≢false, ℕ, ◌<◌, ◌≤◌, ◌^◌, ◌&&◌, ◌||◌, Bool, IsUtf8, List, [], ◌∷◌, length, reverse, string_bytes, Ok, refl, sym, ap, subst, ◌∙◌}
use Rattle.std.specs.Prelude.{◌==◌}
use Rattle.bidi_messages.specs.Verdict.{Verdict, IsVerdict}
use Rattle.bidi_lines.specs.Feeds.{has_feed}
use Rattle.bidi_lines.specs.InputLines.{IsLine, longest_line}
use Rattle.bidi_remote.specs.declared.remote_end.RemoteEnd.{RemoteEnd}
use Rattle.bidi_sessions.specs.Step.{Step, Text, Open, Drop, NotText, At, Page, Frame, Unframe, Log, TableRow}
use Rattle.bidi_remote.specs.Machine.History.{Input}
use Rattle.bidi_remote.specs.State.Stands.{StandsFor}
use Rattle.bidi_play.specs.Lines.{line_of, CanBeSaid}
use Rattle.bidi_play.specs.Players.{HasPlayed}
use Rattle.bidi_scripted.specs.Script.{no_script}
use Rattle.bidi_scripted.specs.View.{script_of}
use Rattle.bidi_scripted.specs.declared.scripted_end.ScriptedEnd.{ScriptedEnd}
use Rattle.bidi_script_lines.specs.InOrder.{Performs}
use Rattle.bidi_script_lines.specs.Outcomes.{outcome_of, outcome_text}
use Rattle.bidi_script_lines.specs.Performing.{Brings, StandsAsBefore, TakesStep}
use Rattle.bidi_script_lines.specs.ScriptLines.{Line, Plain, Answer, Hold, Release, ReleaseWith, Unanswer, Emit, On, Names, Send, Bytes, Raw, Stall, Resume, Cut, CutAfter, Close, Refuse, is_plain, script_line_of, IsWritable, CanBeWritten}
use Rattle.bidi_script_lines.specs.ScriptPlayers.{HasPlayedScript}
use Rattle.bidi_script_lines.proofs.PlainLemmas.{performed_more}
use Rattle.bidi_recorder.specs.declared.host.Recorded.{Recorded}
use Rattle.bidi_recorder.specs.RowCommands.{command_for_rows}
use Rattle.bidi_recorder.specs.PageLines.{is_said_by_pages}
use Rattle.bidi_recorder.specs.Hosting.{IsTaken, Stays, IsSaidAs}
use Rattle.bidi_recorder.proofs.LineLemmas.{one_line, short}

-- ---- nothing was taken

-- a remote end with the same histories has played the same lines
still_played : (old new : RemoteEnd) (lines : List (List ℕ)) (text : List ℕ) → ((h : List Input) → StandsFor old h → StandsFor new h)
    → HasPlayed old lines text → HasPlayed new lines text
still_played old new lines text same p = record {
  steps = p.steps;
  say = p.say;
  each = p.each;
  inputs = p.inputs;
  heard = p.heard;
  answer = p.answer;
  reads_back = p.reads_back;
  stands = same (reverse p.inputs) p.stands;
  few = p.few;
}

-- an end with the same script and the same histories has played the same lines
pub stays : (old new : ScriptedEnd) → StandsAsBefore old new → Stays old new
stays old new (script, same) = record {
  script = script;
  stands = same;
  plays = λ lines text p. record {
    said = p.said;
    say = p.say;
    each = p.each;
    inputs = p.inputs;
    performs = subst (λ s. Performs p.said p.inputs s text) (sym script) p.performs;
    stands = same p.inputs p.stands;
    plain = λ steps e all. let before = p.plain steps e all in (still_played old.end new.end lines text same before.0, script ∙ before.1);
  };
}

-- so has an end that was not asked
pub untouched : (end : ScriptedEnd) → Stays end end
untouched end = record { script = refl; stands = λ h s. s; plays = λ lines text p. p }

-- ---- a line was taken

-- a line that is performed is taken
pub line_taken : (l : Line) (old new : ScriptedEnd) (t : Recorded) → string_bytes t.line ≡ script_line_of l → CanBeWritten l
    → ((s : Step) → CanBeSaid s → string_bytes t.line ≡ line_of s → is_plain l ≡ true)
    → ((s : Step) → l ≡ Plain s → script_of old.script ≡ no_script → TakesStep s old new (Ok t.outcome) × (script_of new.script ≡ no_script))
    → ((h : List Input) → StandsFor old.end h → Brings l h old new (outcome_of t.outcome)) → IsTaken l old new t
line_taken l old new t is can plain takes brings = record {
  line = is;
  said = can;
  brings = brings;
  plain = λ step same empty.
      let taken = takes step same empty in
      let ok = taken.0.ok in
      (taken.1, (ok.0, ok.1, λ h s. ((ok.2 h s).0, (ok.2 h s).2)));
  plays = λ lines text p.
      performed_more old new lines (string_bytes t.line) text (outcome_text (script_of new.script) (outcome_of t.outcome)) l t.outcome p
      (record { says = is; can = can; plain = plain }) brings takes refl;
}

-- ---- texts that a line can hold

-- a text that a line can hold is recorded as itself
pub said_itself : (c : ℕ) (text : List ℕ) → IsSaidAs c text text
said_itself c text = record { itself = λ can. refl; verdict = λ v is. is; command = refl }

-- one that no line can hold is recorded as any text with its verdict that is its command for rows
pub said_otherwise : (c : ℕ) (text said : List ℕ) → (CanBeSaid (Text c text) → ⊥) → ((v : Verdict) → IsVerdict text v → IsVerdict said v)
    → command_for_rows said ≡ command_for_rows text → IsSaidAs c text said
said_otherwise c text said not same command = record { itself = λ can. absurd (not can); verdict = same; command = command }

-- a line whose fields fit can be written
pub written_line : (l : Line) (line : List ℕ) → line ≡ script_line_of l → IsWritable l → IsUtf8 line → IsLine line → CanBeWritten l
written_line l line e parts utf8 is = record {
  parts = parts;
  utf8 = subst IsUtf8 e utf8;
  one_line = subst (λ (z : List ℕ). has_feed z ≡ false) e is.one_line;
  short = subst (λ (z : List ℕ). length z ≤ longest_line) e is.short;
}

-- a line that can be written is one line
pub is_one_line : (l : Line) (line : List ℕ) → line ≡ script_line_of l → CanBeWritten l → IsLine line
is_one_line l line e can = subst IsLine (sym e) (record { one_line = can.one_line; short = can.short })

-- so is the line of a step that can be said
pub is_said_line : (s : Step) (line : List ℕ) → line ≡ line_of s → CanBeSaid s → IsLine line
is_said_line s line e can = subst IsLine (sym e) (record { one_line = can.one_line; short = can.short })

-- a short text in one line can be said
pub said_short : (c : ℕ) (said : List ℕ) → c < 2 ^ 53 → IsUtf8 (line_of (Text c said)) → has_feed said ≡ false → length said ≤ 1048576 → CanBeSaid (Text c said)
said_short c said small utf8 none few = record {
  parts = record { number = small; context = tt };
  utf8 = utf8;
  one_line = one_line c said small none;
  short = short c said small few;
}

-- ---- lines that a page may not say

-- the line begins like one that a connection says: with `op`, `dr`, `> ` or `bi`
begins : List ℕ → Bool
begins (a ∷ b ∷ rest) = ((a == 111) && (b == 112)) || ((a == 100) && (b == 114)) || ((a == 62) && (b == 32)) || ((a == 98) && (b == 105))
begins xs = false

of_connection : (l : Line) → is_said_by_pages l ≡ false → begins (script_line_of l) ≡ true
unfolding begins
of_connection (Plain (At n)) e = absurd (true≢false e)
of_connection (Plain (Open c resource)) e = refl
of_connection (Plain (Drop c)) e = refl
of_connection (Plain (Text c text)) e = refl
of_connection (Plain (NotText c)) e = refl
of_connection (Plain (Page page)) e = absurd (true≢false e)
of_connection l e = absurd (true≢false e)

of_page : (l : Line) → is_said_by_pages l ≡ true → begins (script_line_of l) ≡ false
unfolding begins
of_page (Plain (At n)) e = refl
of_page (Plain (Open c resource)) e = absurd (true≢false (sym e))
of_page (Plain (Drop c)) e = absurd (true≢false (sym e))
of_page (Plain (Text c text)) e = absurd (true≢false (sym e))
of_page (Plain (NotText c)) e = absurd (true≢false (sym e))
of_page (Plain (Page (Frame context url))) e = refl
of_page (Plain (Page (Unframe context))) e = refl
of_page (Plain (Page (Log context level text))) e = refl
of_page (Plain (Page (TableRow text))) e = refl
of_page (Answer row) e = refl
of_page (Hold row) e = refl
of_page (Release number) e = refl
of_page (ReleaseWith number row) e = refl
of_page (Unanswer method) e = refl
of_page (Emit event) e = refl
of_page (On method events) e = refl
of_page (Names names) e = refl
of_page (Send c text) e = refl
of_page (Bytes c digits) e = refl
of_page (Raw c digits) e = refl
of_page (Stall c) e = refl
of_page (Resume c) e = refl
of_page (Cut c) e = refl
of_page (CutAfter c bytes) e = refl
of_page (Close c code) e = refl
of_page (Refuse n code) e = refl

-- a line that a connection says is not one that a page says
pub no_page_line : (l : Line) (line : List ℕ) → line ≡ script_line_of l → is_said_by_pages l ≡ false
    → (m : Line) → CanBeWritten m → is_said_by_pages m ≡ true → line ≡ script_line_of m → ⊥
no_page_line l line is other m can page same = true≢false (sym (of_connection l other) ∙ (ap begins (sym is ∙ same) ∙ of_page m page))
