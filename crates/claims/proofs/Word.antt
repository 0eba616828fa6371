-- What each kind of step does to who recovers and to the note of who settled it.
pub mod Turns
pub mod Stills
pub mod Alarms
pub mod Kinds
pub mod Unread
