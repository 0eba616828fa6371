-- What a load answers.
pub mod Loading
