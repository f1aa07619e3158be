-- What spells a line about sessions, in the words of the scenario's grammar.
use Rattle.std.specs.Prelude.{ℕ, List, [], ◌∷◌, Some, None, codes}
use Rattle.std.specs.Fmt.{decimal}
use Rattle.scenario_text.specs.declared.session_line.SessionLine.{SessionLine}
use Rattle.scenario_text.specs.declared.session_line.SessionLine.TheVariants.{Now, Write, Fetch, Cookie, Present, Lose, Mute, Repeat, Crash, Sweep, Values, Windows, Hold, Free}
use Rattle.scenario_text.specs.Texts.{hex_text}
use Rattle.scenario_text.specs.FieldSpelling.{IsNumber, IsBrick, IsSessionKey, AreBytes, IsText, key_word, freed_word}

-- the numbers, bytes and text of a line about sessions are in their ranges
abbrev pub IsSessionInRange : SessionLine → Type 0
IsSessionInRange (Now moment) = IsNumber moment
IsSessionInRange (Write key bytes) = IsSessionKey key × AreBytes bytes
IsSessionInRange (Fetch key) = IsSessionKey key
IsSessionInRange (Cookie key) = IsSessionKey key
IsSessionInRange (Present text) = IsText text
IsSessionInRange (Lose brick count) = IsBrick brick × IsNumber count
IsSessionInRange (Mute brick count) = IsBrick brick × IsNumber count
IsSessionInRange (Repeat brick index) = IsBrick brick × IsNumber index
IsSessionInRange (Crash brick) = IsBrick brick
IsSessionInRange (Sweep brick None) = IsBrick brick
IsSessionInRange (Sweep brick (Some moment)) = IsBrick brick × IsNumber moment
IsSessionInRange (Values brick) = IsBrick brick
IsSessionInRange Windows = Unit {0}
IsSessionInRange (Hold brick) = IsBrick brick
IsSessionInRange (Free brick freed) = IsBrick brick

-- the words of a line about sessions
abbrev pub words_of_session_line : SessionLine → List (List ℕ)
words_of_session_line (Now moment) = codes "now" ∷ decimal moment ∷ []
words_of_session_line (Write key bytes) = codes "write" ∷ key_word key ∷ hex_text bytes ∷ []
words_of_session_line (Fetch key) = codes "fetch" ∷ key_word key ∷ []
words_of_session_line (Cookie key) = codes "cookie" ∷ key_word key ∷ []
words_of_session_line (Present text) = codes "present" ∷ text ∷ []
words_of_session_line (Lose brick count) = codes "lose" ∷ decimal brick ∷ decimal count ∷ []
words_of_session_line (Mute brick count) = codes "mute" ∷ decimal brick ∷ decimal count ∷ []
words_of_session_line (Repeat brick index) = codes "repeat" ∷ decimal brick ∷ decimal index ∷ []
words_of_session_line (Crash brick) = codes "crash" ∷ decimal brick ∷ []
words_of_session_line (Sweep brick None) = codes "sweep" ∷ decimal brick ∷ []
words_of_session_line (Sweep brick (Some moment)) = codes "sweep" ∷ decimal brick ∷ decimal moment ∷ []
words_of_session_line (Values brick) = codes "values" ∷ decimal brick ∷ []
words_of_session_line Windows = codes "windows" ∷ []
words_of_session_line (Hold brick) = codes "hold" ∷ decimal brick ∷ []
words_of_session_line (Free brick freed) = codes "free" ∷ decimal brick ∷ freed_word freed ∷ []
