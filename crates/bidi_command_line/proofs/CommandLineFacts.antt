-- Examples of command lines, and the faults that `clap` finds in them.
use Rattle.std.proofs.Common.{◌≡◌, [], ◌∷◌, codes, refl}
use Rattle.clap.specs.declared.error.kind.ErrorKind.TheVariants.{DisplayHelp, InvalidSubcommand, MissingSubcommand, UnknownArgument}
use Rattle.clap.proofs.OnLiterals.{clap_on_literals}
use Rattle.bidi_command_line.specs.CommandLine.{faults_of}

takes_play : faults_of (codes "play" ∷ []) ≡ []
unfolding clap_on_literals
takes_play = refl

help_alone : faults_of (codes "--help" ∷ []) ≡ DisplayHelp ∷ []
unfolding clap_on_literals
help_alone = refl

help_of_play : faults_of (codes "play" ∷ codes "-h" ∷ []) ≡ DisplayHelp ∷ []
unfolding clap_on_literals
help_of_play = refl

takes_pair : faults_of (codes "pair" ∷ []) ≡ []
unfolding clap_on_literals
takes_pair = refl

no_word : faults_of [] ≡ MissingSubcommand ∷ []
unfolding clap_on_literals
no_word = refl

another_name : faults_of (codes "over" ∷ []) ≡ UnknownArgument ∷ InvalidSubcommand ∷ []
unfolding clap_on_literals
another_name = refl

word_after_play : faults_of (codes "play" ∷ codes "extra" ∷ []) ≡ UnknownArgument ∷ []
unfolding clap_on_literals
word_after_play = refl

word_after_pair : faults_of (codes "pair" ∷ codes "play" ∷ []) ≡ UnknownArgument ∷ []
unfolding clap_on_literals
word_after_pair = refl
