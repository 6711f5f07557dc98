-- A script played back: `LineLaws` lines of a text, `ScriptPlays` that a site's script rebuilds it, `Cases` that the order may differ.
pub mod LineLaws
pub mod ScriptPlays
pub mod Cases
