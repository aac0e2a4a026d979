pub mod Said
pub mod Firsts
